-- What tokens give in their places, and what lines make of them; or why they give nothing.
use Rattle.std.specs.Prelude.{ℕ, ◌+◌, Bool, true, false, not, ◌&&◌, ◌==◌, nat_lt, List, [], ◌∷◌, length, codes, if◌then◌else◌, is_none, Option, Some, None, Result, Ok, Err}
use Rattle.std.specs.Option.{ok_or, unwrap_or}
use Rattle.theory.specs.Word.{Word}
use Rattle.problem.specs.declared.kinds.Problem.{Problem}
use Rattle.problem.specs.Problem.{allows_rules, has_empty_word, kind_of, letters_of, pairs_of}
use Rattle.line_parts.specs.declared.cause.Cause.{Cause}
use Rattle.line_parts.specs.declared.cause.Cause.TheVariants.{WrongNumberOfWords, BadNumber, AfterExpected, UnknownRelation, TooManyRelations, TooManyPairs, MixedKinds, QueryNotAllowed}
use Rattle.line_parts.specs.declared.version.Version.{Version}
use Rattle.line_parts.specs.LineWords.{element_of}
use Rattle.line_parts.specs.Outcome.{and_then}
use Rattle.line_parts.specs.Tables.{congruence_table_of, low_table_of}
use Rattle.line_parts.specs.Token.{Token, is_word, number_within, relation_of}
use Rattle.query_lang.specs.declared.form.Form.{Form}
use Rattle.query_lang.specs.declared.form.Form.TheVariants.{Relation, OfRole, Pair, Asks}
use Rattle.query_lang.specs.declared.form.QueryForm.{QueryForm}
use Rattle.query_lang.specs.declared.query_line.Scope.{Scope as ScopeOf}
use Rattle.query_lang.specs.declared.role.Role.{Role}
use Rattle.query_lang.specs.declared.role.Role.TheVariants as role
use Rattle.query_lang.specs.Forms.{Place, AWord, ALetter, ANumber, After, ALowTable, ACongruenceTable, ARelation, ALetters, Given, AllGiven, Way, Gives, Pairs, AnyPairs, TwoSidedPairs, NoPairs, row_of, ways_of}
use Rattle.query_lang.specs.Outline.{alphabet_of}
use Rattle.query_lang.specs.Pairing.{is_same_kind, most_pairs}
use Rattle.query_lang.specs.Relations.{most_relations, relations_of}
use Rattle.query_lang.specs.Roles.{count_for, count_for_both, letter_in}

-- what tokens are read over: the version, the letters, whether a word may be empty, and relations
pub record Scope : Type 0 where
  pub version : Version
  pub letters : List ℕ
  pub allow_empty : Bool
  pub relations : List (Word × Word)

abbrev pub scope : Version → List ℕ → Bool → List (Word × Word) → Scope
scope version letters allow_empty relations = record {
  version = version;
  letters = letters;
  allow_empty = allow_empty;
  relations = relations;
}

-- what a query is read over
abbrev pub seen : ScopeOf → Scope
seen s = scope s.version s.alphabet.now s.allow_empty s.relations.now

abbrev pub scope_of : Version → Problem → Scope
scope_of version p = scope version (letters_of p) (has_empty_word p) (relations_of p)

-- how many classes a table may have by the tokens: the first is the number; 0 where it is none
abbrev pub classes_in : List Token → ℕ
classes_in [] = 0
classes_in (t ∷ tokens) = unwrap_or (number_within 1 16 t) 0

-- what the token gives in its place, where these are all the tokens
abbrev pub value_of : Scope → List Token → (place : Place) → Token → Result (Given place) Cause
value_of s all AWord t = element_of s.version s.letters s.allow_empty t
value_of s all ALetter t = letter_in s.version s.letters t
value_of s all (ANumber low high) t = ok_or (number_within low high t) BadNumber
value_of s all After t = if is_word (codes "after") t then Ok tt else Err AfterExpected
value_of s all ALowTable t =
    low_table_of s.allow_empty (length s.letters) (classes_in all) t
value_of s all ACongruenceTable t =
    congruence_table_of s.allow_empty (length s.letters) s.relations t
value_of s all ARelation t = ok_or (relation_of t) UnknownRelation
value_of s all (ALetters wide) t = alphabet_of wide t

-- what the tokens give in these places, from the left
abbrev pub values_of : Scope → List Token → (places : List Place) → List Token
    → Result (AllGiven places) Cause
values_of s all [] tokens = Ok tt
values_of s all (place ∷ places) [] = Err WrongNumberOfWords
values_of s all (place ∷ places) (t ∷ tokens) =
    and_then (λ v. and_then (λ vs. Ok (v, vs)) (values_of s all places tokens))
    (value_of s all place t)

-- as many of these as of those
abbrev pub as_many : {A B : Type 0} → List A → List B → Bool
as_many [] [] = true
as_many [] (y ∷ ys) = false
as_many (x ∷ xs) [] = false
as_many (x ∷ xs) (y ∷ ys) = as_many xs ys

-- the way that has as many places as there are tokens
abbrev pub way_for : {A : Type 0} → List Token → List (Way A) → Option (Way A)
way_for tokens [] = None
way_for tokens (way ∷ ways) =
    if as_many way.places tokens then Some way else way_for tokens ways

-- what is written this way
abbrev pub made_by : {A : Type 0} → Scope → List Token → Way A → Result A Cause
made_by s tokens way =
    and_then (λ vs. Ok (way.makes vs)) (values_of s tokens way.places tokens)

-- what is written in one of these ways
abbrev pub made_in : {A : Type 0} → Scope → List (Way A) → List Token → Result A Cause
made_in s ways tokens = and_then (made_by s tokens)
    (ok_or (way_for tokens ways) WrongNumberOfWords)

-- how many classes tables may have, and how many tables are asked for
abbrev pub limits_of : Token → Token → Result (ℕ × ℕ) Cause
limits_of classes count =
    and_then (λ n. and_then (λ m. Ok (n, m)) (ok_or (number_within 0 1000000 count) BadNumber))
    (ok_or (number_within 1 16 classes) BadNumber)

-- whether there are as many tokens as stand behind the name of this query
abbrev pub takes : QueryForm → List Token → Bool
takes form tokens = not (is_none (way_for tokens (row_of form).ways))

-- whether the pairs of the problem do not allow it
abbrev pub bars : Problem → Pairs → Bool
bars p AnyPairs = false
bars p TwoSidedPairs = not (allows_rules p)
bars p NoPairs = not (length (pairs_of p) == 0)

-- whether the pairs of the problem do not allow a query of this form
abbrev pub bars_query : Problem → QueryForm → Bool
bars_query p form = bars p (row_of form).pairs

-- the ways to write a line of this form
abbrev pub ways_in : Problem → (form : Form) → List (Way (Gives form))
ways_in p form = ways_of (has_empty_word p) (length (letters_of p)) form

-- whether there are as many tokens as stand behind the name of this form
abbrev pub fits : Problem → Form → List Token → Bool
fits p form tokens = not (is_none (way_for tokens (ways_in p form)))

-- how many relations the role gives, by the texts of its letters
abbrev pub count_by : List ℕ → Role → List Token → ℕ
count_by letters role.Identity (t ∷ tokens) = count_for letters t
count_by letters role.Zero (t ∷ tokens) = count_for letters t
count_by letters role.Inverse (x ∷ y ∷ tokens) = count_for_both x y
count_by letters role tokens = 0

-- more than 4,096 relations with those of the line
abbrev pub is_relation_too_many : Problem → Form → List Token → Bool
is_relation_too_many p Relation tokens = length (relations_of p) == most_relations
is_relation_too_many p (OfRole role) tokens = nat_lt most_relations
    (length (relations_of p) + count_by (letters_of p) role tokens)
is_relation_too_many p form tokens = false

-- a 4,097th pair
abbrev pub is_pair_too_many : Problem → Form → Bool
is_pair_too_many p (Pair kind) = length (pairs_of p) == most_pairs
is_pair_too_many p form = false

-- a pair of another kind than the first pair
abbrev pub mixes_kinds : Problem → Form → Bool
mixes_kinds p (Pair kind) = not (length (pairs_of p) == 0)
    && not (is_same_kind (kind_of p) kind)
mixes_kinds p form = false

-- the query is not there for these pairs
abbrev pub is_barred : Problem → Form → Bool
is_barred p (Asks query) = bars_query p query
is_barred p form = false

-- what a line of this form adds, by the tokens behind its name; or why it adds nothing, where it
-- may stand
abbrev pub added_of : Version → Problem → (form : Form) → List Token
    → Result (Gives form) Cause
added_of version p form tokens =
    if not (fits p form tokens) then Err WrongNumberOfWords
    else if is_relation_too_many p form tokens then Err TooManyRelations
    else if is_pair_too_many p form then Err TooManyPairs
    else if mixes_kinds p form then Err MixedKinds
    else if is_barred p form then Err QueryNotAllowed
    else made_in (scope_of version p) (ways_in p form) tokens
