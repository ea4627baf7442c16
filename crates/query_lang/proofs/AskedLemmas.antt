-- Queries by the ways to write them, and where they may be asked.
use Rattle.std.proofs.Common.{◌≡◌, ℕ, Bool, true, false, not, ◌==◌, if◌then◌else◌, List, [], ◌∷◌, length, Option, Some, is_none, Result, Ok, Err, IfErr, IfOk, IsErrAnd, refl, sym, ap, ap₂, ◌∙◌, subst, subst₂, arith, true≢false}
use Rattle.std.specs.Option.{ok_or}
use Rattle.std.proofs.lemmas.Bool.{eqb-true}
use Rattle.theory.specs.Graph.{Graph}
use Rattle.theory.specs.Word.{Word}
use Rattle.theory.specs.declared.Relation.{Relation as GreenRelation}
use Rattle.problem.specs.declared.kinds.Problem.{Problem}
use Rattle.problem.specs.Problem.{allows_rules, has_empty_word, is_presented, letters_of, pairs_of}
use Rattle.line_parts.specs.declared.cause.Cause.{Cause}
use Rattle.line_parts.specs.declared.cause.Cause.TheVariants.{MixedKinds, QueryNotAllowed, TooManyPairs, TooManyRelations, UnknownRelation, WrongNumberOfWords}
use Rattle.line_parts.specs.declared.version.Version.{Version}
use Rattle.line_parts.specs.Faults.{IsLineFault}
use Rattle.line_parts.specs.LineWords.{element_of, one_relation, one_word, two_words}
use Rattle.line_parts.specs.Outcome.{and_then}
use Rattle.line_parts.specs.Tables.{two_tables}
use Rattle.line_parts.specs.Token.{Token, relation_of}
use Rattle.line_parts.proofs.FaultLemmas.{handed_on}
use Rattle.query_lang.specs.declared.form.Form.TheVariants.{Asks}
use Rattle.query_lang.specs.declared.form.QueryForm.{QueryForm}
use Rattle.query_lang.specs.declared.form.QueryForm.TheVariants as query_form
use Rattle.query_lang.specs.declared.script.Query.{Query}
use Rattle.query_lang.specs.Forms.{AWord, ACongruenceTable, ARelation, AllGiven, Way, way, Scripts, AllScripts, OfRelations, OfGenerators, Pairs, AnyPairs, TwoSidedPairs, NoPairs, are_scripts, has_query, row_of}
use Rattle.query_lang.specs.Query.{IsQueryOf, IsQueryOver, are_none, are_of_generators, are_of_relations, are_two_sided, form_of}
use Rattle.query_lang.specs.Relations.{relations_of}
use Rattle.query_lang.specs.Values.{Scope, added_of, as_many, bars, bars_query, made_by, made_in, scope, scope_of, takes, values_of, way_for}
use Rattle.query_lang.proofs.QueryLemmas.{carried, one_in, same_fault, tables_in, two_in}

-- queries by their ways

bare_made : (s : Scope) (query : Query) (tokens : List Token) → not (is_none (way_for tokens (way [] (λ v. query) ∷ []))) ≡ true → made_in s (way [] (λ v. query) ∷ []) tokens ≡ Ok query
bare_made s query [] h = refl
bare_made s query (t ∷ tokens) h = absurd (true≢false (sym h))

-- a query with no token behind its name
pub nothing_made : (s : Scope) (ways : List (Way Query)) (query : Query) (tokens : List Token) → ways ≡ way [] (λ v. query) ∷ [] → not (is_none (way_for tokens ways)) ≡ true → made_in s ways tokens ≡ Ok query
nothing_made s ways query tokens e h =
    ap (λ ways. made_in s ways tokens) e ∙ bare_made s query tokens (subst (λ ways. not (is_none (way_for tokens ways)) ≡ true) e h)

-- a query of one way, by what is read
way_made : {A : Type 0} (s : Scope) (ways others : List (Way Query)) (tokens : List Token) (f : A → Query) (r : Result A Cause) (x : A) → ways ≡ others → made_in s others tokens ≡ and_then (λ x. Ok (f x)) r → r ≡ Ok x → made_in s ways tokens ≡ Ok (f x)
way_made s ways others tokens f r x e m h = ap (λ ways. made_in s ways tokens) e ∙ m ∙ ap (and_then (λ x. Ok (f x))) h

-- or why it is refused
way_refused : {A B : Type 0} (s : Scope) (ways others : List (Way Query)) (tokens : List Token) (f : A → Query) (r : Result A Cause) (returned : Result B (Option Cause)) (fault : Option Cause)
    → IsErrAnd returned (λ e. e ≡ fault) → ways ≡ others → made_in s others tokens ≡ and_then (λ x. Ok (f x)) r → IsLineFault r fault → IfErr returned (IsLineFault (made_in s ways tokens))
way_refused s ways others tokens f r returned fault h e m k =
    handed_on returned fault (made_in s ways tokens) h (same_fault (made_in s ways tokens) (and_then (λ x. Ok (f x)) r) fault (ap (λ ways. made_in s ways tokens) e ∙ m) (carried f r fault k))

-- one word

abbrev of_word : (AllGiven (AWord ∷ []) → Query) → Word → Query
of_word makes u = makes (u, tt)

abbrev read_word : Scope → List Token → Result Word Cause
read_word s tokens = one_word s.version s.letters s.allow_empty tokens

word_in : (s : Scope) (makes : AllGiven (AWord ∷ []) → Query) (tokens : List Token) → made_in s (way (AWord ∷ []) makes ∷ []) tokens ≡ and_then (λ u. Ok (of_word makes u)) (read_word s tokens)
word_in s makes [] = refl
word_in s makes (t ∷ []) = one_in makes (element_of s.version s.letters s.allow_empty t)
word_in s makes (t ∷ u ∷ tokens) = refl

pub word_made : (s : Scope) (ways : List (Way Query)) (makes : AllGiven (AWord ∷ []) → Query) (tokens : List Token) (u : Word) → ways ≡ way (AWord ∷ []) makes ∷ [] → read_word s tokens ≡ Ok u → made_in s ways tokens ≡ Ok (makes (u, tt))
word_made s ways makes tokens u e h = way_made s ways _ tokens (of_word makes) (read_word s tokens) u e (word_in s makes tokens) h

pub word_refused : {B : Type 0} (s : Scope) (ways : List (Way Query)) (makes : AllGiven (AWord ∷ []) → Query) (tokens : List Token) (r : Result B (Option Cause)) (fault : Option Cause) → IsErrAnd r (λ e. e ≡ fault) → ways ≡ way (AWord ∷ []) makes ∷ []
    → IsLineFault (read_word s tokens) fault → IfErr r (IsLineFault (made_in s ways tokens))
word_refused s ways makes tokens r fault h e k = way_refused s ways _ tokens (of_word makes) (read_word s tokens) r fault h e (word_in s makes tokens) k

-- two words

abbrev of_words : (AllGiven (AWord ∷ AWord ∷ []) → Query) → Word × Word → Query
of_words makes p = makes (p.0, (p.1, tt))

abbrev read_words : Scope → List Token → Result (Word × Word) Cause
read_words s tokens = two_words s.version s.letters s.allow_empty tokens

words_in : (s : Scope) (makes : AllGiven (AWord ∷ AWord ∷ []) → Query) (tokens : List Token) → made_in s (way (AWord ∷ AWord ∷ []) makes ∷ []) tokens ≡ and_then (λ p. Ok (of_words makes p)) (read_words s tokens)
words_in s makes [] = refl
words_in s makes (t ∷ []) = refl
words_in s makes (t ∷ u ∷ []) = two_in makes (element_of s.version s.letters s.allow_empty t) (element_of s.version s.letters s.allow_empty u)
words_in s makes (t ∷ u ∷ v ∷ tokens) = refl

pub words_made : (s : Scope) (ways : List (Way Query)) (makes : AllGiven (AWord ∷ AWord ∷ []) → Query) (tokens : List Token) (p : Word × Word) → ways ≡ way (AWord ∷ AWord ∷ []) makes ∷ [] → read_words s tokens ≡ Ok p → made_in s ways tokens ≡ Ok (makes (p.0, (p.1, tt)))
words_made s ways makes tokens p e h = way_made s ways _ tokens (of_words makes) (read_words s tokens) p e (words_in s makes tokens) h

pub words_refused : {B : Type 0} (s : Scope) (ways : List (Way Query)) (makes : AllGiven (AWord ∷ AWord ∷ []) → Query) (tokens : List Token) (r : Result B (Option Cause)) (fault : Option Cause) → IsErrAnd r (λ e. e ≡ fault) → ways ≡ way (AWord ∷ AWord ∷ []) makes ∷ []
    → IsLineFault (read_words s tokens) fault → IfErr r (IsLineFault (made_in s ways tokens))
words_refused s ways makes tokens r fault h e k = way_refused s ways _ tokens (of_words makes) (read_words s tokens) r fault h e (words_in s makes tokens) k

-- one of Green's relations

abbrev of_relation : (AllGiven (ARelation ∷ []) → Query) → GreenRelation → Query
of_relation makes relation = makes (relation, tt)

relation_in : (s : Scope) (makes : AllGiven (ARelation ∷ []) → Query) (tokens : List Token) → made_in s (way (ARelation ∷ []) makes ∷ []) tokens ≡ and_then (λ relation. Ok (of_relation makes relation)) (one_relation tokens)
relation_in s makes [] = refl
relation_in s makes (t ∷ []) = one_in makes (ok_or (relation_of t) UnknownRelation)
relation_in s makes (t ∷ u ∷ tokens) = refl

pub relation_made : (s : Scope) (ways : List (Way Query)) (makes : AllGiven (ARelation ∷ []) → Query) (tokens : List Token) (relation : GreenRelation) → ways ≡ way (ARelation ∷ []) makes ∷ [] → one_relation tokens ≡ Ok relation → made_in s ways tokens ≡ Ok (makes (relation, tt))
relation_made s ways makes tokens relation e h = way_made s ways _ tokens (of_relation makes) (one_relation tokens) relation e (relation_in s makes tokens) h

pub relation_refused : {B : Type 0} (s : Scope) (ways : List (Way Query)) (makes : AllGiven (ARelation ∷ []) → Query) (tokens : List Token) (r : Result B (Option Cause)) (cause : Cause) → IsErrAnd r (λ e. e ≡ Some cause) → ways ≡ way (ARelation ∷ []) makes ∷ []
    → one_relation tokens ≡ Err cause → IfErr r (IsLineFault (made_in s ways tokens))
relation_refused s ways makes tokens r cause h e k = way_refused s ways _ tokens (of_relation makes) (one_relation tokens) r (Some cause) h e (relation_in s makes tokens) k

-- two tables
pub tables_made : (s : Scope) (ways : List (Way Query)) (makes : AllGiven (ACongruenceTable ∷ ACongruenceTable ∷ []) → Query) (tokens : List Token) (k : ℕ) (p : Graph × Graph)
    → ways ≡ way (ACongruenceTable ∷ ACongruenceTable ∷ []) makes ∷ [] → k ≡ length s.letters → two_tables s.allow_empty k s.relations tokens ≡ Ok p → made_in s ways tokens ≡ Ok (makes (p.0, (p.1, tt)))
tables_made s ways makes tokens k p w e h =
    way_made s ways _ tokens (λ (p : Graph × Graph). makes (p.0, (p.1, tt))) _ p w (tables_in s makes tokens) (ap (λ k. two_tables s.allow_empty k s.relations tokens) (sym e) ∙ h)

-- where a query may be asked

none_generated : (scripts : Scripts) (b : Bool) → are_scripts scripts b ≡ true → b ≡ true → are_of_generators scripts ≡ false
none_generated AllScripts b h e = refl
none_generated OfRelations b h e = refl
none_generated OfGenerators true h e = absurd (true≢false (sym h))
none_generated OfGenerators false h e = absurd (true≢false (sym e))

relations_given : (scripts : Scripts) (b : Bool) → are_scripts scripts b ≡ true → are_of_relations scripts ≡ true → b ≡ true
relations_given AllScripts b h e = absurd (true≢false (sym e))
relations_given OfRelations b h e = h
relations_given OfGenerators b h e = absurd (true≢false (sym e))

allowed : (b : Bool) → not b ≡ false → b ≡ true
allowed true h = refl
allowed false h = absurd (true≢false h)

rules_allowed : (p : Problem) (pairs : Pairs) → bars p pairs ≡ false → are_two_sided pairs ≡ true → allows_rules p ≡ true
rules_allowed p AnyPairs h e = absurd (true≢false (sym e))
rules_allowed p TwoSidedPairs h e = allowed (allows_rules p) h
rules_allowed p NoPairs h e = absurd (true≢false (sym e))

no_pairs : {A : Type 0} (xs : List A) → not (length xs == 0) ≡ false → xs ≡ []
no_pairs [] h = refl
no_pairs (x ∷ xs) h = let none : length (x ∷ xs) ≡ 0 = eqb-true (length (x ∷ xs)) 0 (allowed (length (x ∷ xs) == 0) h) in absurd (omega arith)

without_pairs : (p : Problem) (pairs : Pairs) → bars p pairs ≡ false → are_none pairs ≡ true → pairs_of p ≡ []
without_pairs p AnyPairs h e = absurd (true≢false (sym e))
without_pairs p TwoSidedPairs h e = absurd (true≢false (sym e))
without_pairs p NoPairs h e = no_pairs (pairs_of p) h

-- a query that is there for the problem, and over its letters
queries_own : (p : Problem) (form : QueryForm) (query : Query) → has_query (is_presented p) form ≡ true → bars_query p form ≡ false → form_of query ≡ form → IsQueryOver (has_empty_word p) (length (letters_of p)) (relations_of p) query → IsQueryOf p query
queries_own p form query there allowed is over =
    let kind : has_query (is_presented p) (form_of query) ≡ true = ap (has_query (is_presented p)) is ∙ there in
    let free : bars_query p (form_of query) ≡ false = ap (bars_query p) is ∙ allowed in
    record {
      there = λ presented. none_generated (row_of (form_of query)).scripts (is_presented p) kind presented;
      presented = λ needs. relations_given (row_of (form_of query)).scripts (is_presented p) kind needs;
      allowed = λ needs. rules_allowed p (row_of (form_of query)).pairs free needs;
      unpaired = λ needs. without_pairs p (row_of (form_of query)).pairs free needs;
      over = over;
    }

-- what is read over what the problem gives
pub record IsScopeOf (p : Problem) (letters : List ℕ) (allow_empty : Bool) (relations : List (Word × Word)) : Type 0 where
  pub letters_are : letters ≡ letters_of p
  pub empty_is : allow_empty ≡ has_empty_word p
  pub relations_are : relations ≡ relations_of p

-- each of the ways makes queries of this form
abbrev AllMake : QueryForm → List (Way Query) → Type 0
AllMake form [] = Unit {0}
AllMake form (w ∷ ways) = ((vs : AllGiven w.places) → form_of (w.makes vs) ≡ form) × AllMake form ways

row_makes : (form : QueryForm) → AllMake form (row_of form).ways
row_makes query_form.Index = (λ v. refl, tt)
row_makes query_form.Equal = (λ v. refl, tt)
row_makes query_form.Normal = (λ v. refl, tt)
row_makes query_form.Classes = (λ v. refl, (λ v. refl, tt))
row_makes query_form.Rules = (λ v. refl, tt)
row_makes query_form.Element = (λ v. refl, tt)
row_makes query_form.Cayley = (λ v. refl, tt)
row_makes (query_form.LowIndex two_sided) = (λ v. refl, (λ v. refl, tt))
row_makes query_form.Meet = (λ v. refl, tt)
row_makes query_form.Join = (λ v. refl, tt)
row_makes query_form.Chain = (λ v. refl, tt)
row_makes query_form.Green = (λ v. refl, tt)
row_makes query_form.Idempotents = (λ v. refl, tt)

of_form : (s : Scope) (form : QueryForm) (ways : List (Way Query)) (tokens : List Token) (query : Query) → AllMake form ways → made_in s ways tokens ≡ Ok query → form_of query ≡ form
of_form s form [] tokens query all h = absurd (cc)
of_form s form (w ∷ ways) tokens query all h = by (λ h. of_form s form ways tokens query all.1 h) (as_many w.places tokens) h
  where
    made : (r : Result (AllGiven w.places) Cause) → and_then (λ vs. Ok (w.makes vs)) r ≡ Ok query → form_of query ≡ form
    made (Ok vs) h = let same : w.makes vs ≡ query = cc in ap form_of (sym same) ∙ all.0 vs
    made (Err c) h = absurd (cc)

    by : (made_in s ways tokens ≡ Ok query → form_of query ≡ form) → (fit : Bool) → and_then (made_by s tokens) (ok_or (if fit then Some w else way_for tokens ways) WrongNumberOfWords) ≡ Ok query → form_of query ≡ form
    by behind true h = made (values_of s tokens w.places tokens) h
    by behind false h = behind h

pub asked_own : {E : Type 0} (version : Version) (p : Problem) (letters : List ℕ) (allow_empty : Bool) (relations : List (Word × Word)) (form : QueryForm) (tokens : List Token) (r : Result Query E) → IsScopeOf p letters allow_empty relations → has_query (is_presented p) form ≡ true → bars_query p form ≡ false
    → IfOk r (λ query. made_in (scope version letters allow_empty relations) (row_of form).ways tokens ≡ Ok query) → IfOk r (IsQueryOver allow_empty (length letters) relations) → IfOk r (IsQueryOf p)
asked_own version p letters allow_empty relations form tokens (Err e) are there allowed made over = tt
asked_own version p letters allow_empty relations form tokens (Ok query) are there allowed made over =
    queries_own p form query there allowed (of_form (scope version letters allow_empty relations) form (row_of form).ways tokens query (row_makes form) made)
    (subst (λ relations. IsQueryOver (has_empty_word p) (length (letters_of p)) relations query) are.relations_are
    (subst₂ (λ empty letters. IsQueryOver empty (length letters) relations query) are.empty_is are.letters_are over))

-- what a line of the query adds, by its tests
abbrev tested : {A : Type 0} → (fits barred : Bool) → Result A Cause → Result A Cause
tested fits barred r =
    if not fits then Err WrongNumberOfWords
    else if false then Err TooManyRelations
    else if false then Err TooManyPairs
    else if false then Err MixedKinds
    else if barred then Err QueryNotAllowed
    else r

added_by : (version : Version) (p : Problem) (form : QueryForm) (tokens : List Token) (fits barred : Bool) → takes form tokens ≡ fits → bars_query p form ≡ barred
    → added_of version p (Asks form) tokens ≡ tested fits barred (made_in (scope_of version p) (row_of form).ways tokens)
added_by version p form tokens fits barred h k = ap₂ (λ fits barred. tested fits barred (made_in (scope_of version p) (row_of form).ways tokens)) h k

-- it adds what its tokens make
pub asked_made : (version : Version) (p : Problem) (letters : List ℕ) (allow_empty : Bool) (relations : List (Word × Word)) (form : QueryForm) (tokens : List Token) → IsScopeOf p letters allow_empty relations → takes form tokens ≡ true → bars_query p form ≡ false
    → made_in (scope version letters allow_empty relations) (row_of form).ways tokens ≡ added_of version p (Asks form) tokens
asked_made version p letters allow_empty relations form tokens are h k =
    ap (λ letters. made_in (scope version letters allow_empty relations) (row_of form).ways tokens) are.letters_are
    ∙ ap₂ (λ empty relations. made_in (scope version (letters_of p) empty relations) (row_of form).ways tokens) are.empty_is are.relations_are
    ∙ sym (added_by version p form tokens true false h k)

-- unless there are more tokens or less
pub asked_unfit : (version : Version) (p : Problem) (form : QueryForm) (tokens : List Token) → takes form tokens ≡ false → added_of version p (Asks form) tokens ≡ Err WrongNumberOfWords
asked_unfit version p form tokens h = added_by version p form tokens false (bars_query p form) h refl

-- or the pairs do not allow it
pub asked_barred : (version : Version) (p : Problem) (form : QueryForm) (tokens : List Token) → takes form tokens ≡ true → bars_query p form ≡ true → added_of version p (Asks form) tokens ≡ Err QueryNotAllowed
asked_barred version p form tokens h k = added_by version p form tokens true true h k
