-- What lines of relations, pairs and inverses add, by the words and letters that are read.
use Rattle.std.proofs.Common.{◌≡◌, ◌≢◌, ◌<◌, ◌≤◌, ◌+◌, ℕ, ◌==◌, Bool, true, false, if◌then◌else◌, List, [], ◌∷◌, length, Option, Some, None, Result, Ok, Err, IfOk, IfErr, IsErrAnd, Bor, refl, sym, ap, ◌∙◌, subst}
use Rattle.theory.specs.Word.{Word}
use Rattle.theory.specs.declared.Kind.{Kind}
use Rattle.presentation.specs.Presented.{Posed}
use Rattle.presentation.specs.Added.{identity_relations, inverse_relations, zero_relations}
use Rattle.problem.specs.declared.kinds.Problem.{Problem}
use Rattle.problem.specs.declared.kinds.Problem.TheVariants.{Presented}
use Rattle.problem.specs.Problem.{has_empty_word, letters_of, pairs_of}
use Rattle.line_parts.specs.declared.cause.Cause.{Cause}
use Rattle.line_parts.specs.declared.cause.Cause.TheVariants as cause
use Rattle.line_parts.specs.declared.version.Version.{Version}
use Rattle.line_parts.specs.Faults.{IsLineFault}
use Rattle.line_parts.specs.LineWords.{both_elements, element_of, two_tokens}
use Rattle.line_parts.specs.Outcome.{and_then}
use Rattle.line_parts.specs.Texts.{texts}
use Rattle.line_parts.specs.Token.{Token}
use Rattle.query_lang.specs.declared.form.Form.TheVariants.{Relation, OfRole, Pair}
use Rattle.query_lang.specs.declared.role.Role.TheVariants.{Identity, Zero, Inverse}
use Rattle.query_lang.specs.Outline.{related}
use Rattle.query_lang.specs.Pairing.{most_pairs}
use Rattle.query_lang.specs.Relations.{add_relations, most_relations}
use Rattle.query_lang.specs.Roles.{AreInverses, both_letters, count_for, count_for_both, is_too_many, letter_for, letter_in}
use Rattle.query_lang.specs.Values.{added_of, mixes_kinds}
use Rattle.query_lang.proofs.QueryLemmas.{carried, same_fault, two_in}

-- two tokens
two_are : (tokens : List Token) (s t : Token) → two_tokens tokens ≡ Ok (s, t) → tokens ≡ s ∷ t ∷ []
two_are [] s t h = absurd (cc)
two_are (x ∷ []) s t h = absurd (cc)
two_are (x ∷ y ∷ z ∷ tokens) s t h = absurd (cc)
two_are (x ∷ y ∷ []) s t h = let both : ◌≡◌ {A = Token × Token} (x, y) (s, t) = cc in ap (λ (p : Token × Token). p.0 ∷ p.1 ∷ []) both

-- a relation
pub relation_in : (version : Version) (o : Posed) (tokens : List Token) (s t : Token) → two_tokens tokens ≡ Ok (s, t) → (length o.congruence.presentation.relations == most_relations) ≡ false
    → added_of version (Presented o) Relation tokens ≡ and_then (λ p. Ok (p ∷ [])) (both_elements version o.alphabet o.congruence.presentation.is_monoid s t)
relation_in version o tokens s t h few =
    ap (added_of version (Presented o) Relation) (two_are tokens s t h)
    ∙ rw few (two_in (λ v. (v.0, v.1.0) ∷ []) (element_of version o.alphabet o.congruence.presentation.is_monoid s) (element_of version o.alphabet o.congruence.presentation.is_monoid t))

pub relation_missing : (version : Version) (o : Posed) (tokens : List Token) (c : Cause) → two_tokens tokens ≡ Err c → added_of version (Presented o) Relation tokens ≡ Err c
relation_missing version o [] c h = let same : cause.WrongNumberOfWords ≡ c = cc in ap (λ c. Err c) same
relation_missing version o (s ∷ []) c h = let same : cause.WrongNumberOfWords ≡ c = cc in ap (λ c. Err c) same
relation_missing version o (s ∷ t ∷ []) c h = absurd (cc)
relation_missing version o (s ∷ t ∷ u ∷ tokens) c h = let same : cause.WrongNumberOfWords ≡ c = cc in ap (λ c. Err c) same

pub relation_over : (version : Version) (o : Posed) (tokens : List Token) (s t : Token) → two_tokens tokens ≡ Ok (s, t) → length o.congruence.presentation.relations ≡ most_relations → added_of version (Presented o) Relation tokens ≡ Err cause.TooManyRelations
relation_over version o tokens s t h full =
    let many : (length o.congruence.presentation.relations == most_relations) ≡ true = subst (λ n. (n == most_relations) ≡ true) (sym full) refl in
    ap (added_of version (Presented o) Relation) (two_are tokens s t h) ∙ rw many refl

-- a pair
pub pair_in : (version : Version) (p : Problem) (kind : Kind) (tokens : List Token) (s t : Token) → two_tokens tokens ≡ Ok (s, t) → (length (pairs_of p) == most_pairs) ≡ false → mixes_kinds p (Pair kind) ≡ false
    → added_of version p (Pair kind) tokens ≡ and_then (λ p. Ok p) (both_elements version (letters_of p) (has_empty_word p) s t)
pair_in version p kind tokens s t h few same =
    ap (added_of version p (Pair kind)) (two_are tokens s t h)
    ∙ rw (few, same) (two_in (λ v. (v.0, v.1.0)) (element_of version (letters_of p) (has_empty_word p) s) (element_of version (letters_of p) (has_empty_word p) t))

pub pair_missing : (version : Version) (p : Problem) (kind : Kind) (tokens : List Token) (c : Cause) → two_tokens tokens ≡ Err c → added_of version p (Pair kind) tokens ≡ Err c
pair_missing version p kind [] c h = let same : cause.WrongNumberOfWords ≡ c = cc in ap (λ c. Err c) same
pair_missing version p kind (s ∷ []) c h = let same : cause.WrongNumberOfWords ≡ c = cc in ap (λ c. Err c) same
pair_missing version p kind (s ∷ t ∷ []) c h = absurd (cc)
pair_missing version p kind (s ∷ t ∷ u ∷ tokens) c h = let same : cause.WrongNumberOfWords ≡ c = cc in ap (λ c. Err c) same

pub pair_over : (version : Version) (p : Problem) (kind : Kind) (tokens : List Token) (s t : Token) → two_tokens tokens ≡ Ok (s, t) → length (pairs_of p) ≡ most_pairs → added_of version p (Pair kind) tokens ≡ Err cause.TooManyPairs
pair_over version p kind tokens s t h full =
    let many : (length (pairs_of p) == most_pairs) ≡ true = subst (λ n. (n == most_pairs) ≡ true) (sym full) refl in
    ap (added_of version p (Pair kind)) (two_are tokens s t h) ∙ rw many refl

pub pair_mixed : (version : Version) (p : Problem) (kind : Kind) (tokens : List Token) (s t : Token) → two_tokens tokens ≡ Ok (s, t) → (length (pairs_of p) == most_pairs) ≡ false → mixes_kinds p (Pair kind) ≡ true → added_of version p (Pair kind) tokens ≡ Err cause.MixedKinds
pair_mixed version p kind tokens s t h few mixed = ap (added_of version p (Pair kind)) (two_are tokens s t h) ∙ rw (few, mixed) refl

-- what is made of what two words or letters give
pub made_ok : {A B : Type 0} (f : A → B) (r : Result A (Option Cause)) (outcome : Result A Cause) (added : Result B Cause) → added ≡ and_then (λ s. Ok (f s)) outcome → IfOk r (λ s. outcome ≡ Ok s) → IfOk r (λ s. added ≡ Ok (f s))
made_ok f (Ok s) outcome added e h = e ∙ ap (and_then (λ s. Ok (f s))) h
made_ok f (Err fault) outcome added e h = tt

pub made_err : {A B : Type 0} (f : A → B) (r : Result A (Option Cause)) (outcome : Result A Cause) (added : Result B Cause) → added ≡ and_then (λ s. Ok (f s)) outcome → IfErr r (IsLineFault outcome) → IfErr r (IsLineFault added)
made_err f (Ok s) outcome added e h = tt
made_err f (Err fault) outcome added e h = same_fault _ _ fault e (carried f outcome fault h)

pub cause_handed : {A B : Type 0} (r : Result B Cause) (c : Cause) (outcome : Result A Cause) → IsErrAnd r (λ e. e ≡ c) → outcome ≡ Err c → IfErr r (λ e. outcome ≡ Err e)
cause_handed (Ok x) c outcome h p = tt
cause_handed (Err e) c outcome h p = p ∙ ap (λ c. Err c) (sym h)

-- an identity or a zero

few_one : {A : Type 0} (makes : ℕ × Unit {0} → A) (many : Bool) (u : Result ℕ Cause)
    → (if many then Err cause.TooManyRelations else and_then (λ vs. Ok (makes vs)) (and_then (λ x. Ok (x, tt)) u)) ≡ and_then (λ x. Ok (makes (x, tt))) (if many then Err cause.TooManyRelations else u)
few_one makes true u = refl
few_one makes false (Err c) = refl
few_one makes false (Ok x) = refl

identity_in : (version : Version) (o : Posed) (tokens : List Token) → added_of version (Presented o) (OfRole Identity) tokens ≡ and_then (λ x. Ok (identity_relations (length o.alphabet) x)) (letter_for version o tokens)
identity_in version o [] = refl
identity_in version o (t ∷ u ∷ tokens) = refl
identity_in version o (t ∷ []) = few_one (λ v. identity_relations (length o.alphabet) v.0) (is_too_many o (count_for o.alphabet t)) (letter_in version o.alphabet t)

zero_in : (version : Version) (o : Posed) (tokens : List Token) → added_of version (Presented o) (OfRole Zero) tokens ≡ and_then (λ x. Ok (zero_relations (length o.alphabet) x)) (letter_for version o tokens)
zero_in version o [] = refl
zero_in version o (t ∷ u ∷ tokens) = refl
zero_in version o (t ∷ []) = few_one (λ v. zero_relations (length o.alphabet) v.0) (is_too_many o (count_for o.alphabet t)) (letter_in version o.alphabet t)

-- what is made of the letter
made_related : (o : Posed) (f : ℕ → List (Word × Word)) (r : Result ℕ Cause) (added : Result (List (Word × Word)) Cause) → added ≡ and_then (λ x. Ok (f x)) r → related o added ≡ and_then (λ x. Ok (add_relations o (f x))) r
made_related o f (Ok x) added e = ap (related o) e
made_related o f (Err c) added e = ap (related o) e

pub identity_related : (version : Version) (o : Posed) (tokens : List Token) → related o (added_of version (Presented o) (OfRole Identity) tokens) ≡ and_then (λ x. Ok (add_relations o (identity_relations (length o.alphabet) x))) (letter_for version o tokens)
identity_related version o tokens = made_related o (identity_relations (length o.alphabet)) (letter_for version o tokens) _ (identity_in version o tokens)

pub zero_related : (version : Version) (o : Posed) (tokens : List Token) → related o (added_of version (Presented o) (OfRole Zero) tokens) ≡ and_then (λ x. Ok (add_relations o (zero_relations (length o.alphabet) x))) (letter_for version o tokens)
zero_related version o tokens = made_related o (zero_relations (length o.alphabet)) (letter_for version o tokens) _ (zero_in version o tokens)

-- inverses

few_two : {A : Type 0} (makes : ℕ × (ℕ × Unit {0}) → A) (many : Bool) (u v : Result ℕ Cause)
    → (if many then Err cause.TooManyRelations else and_then (λ vs. Ok (makes vs)) (and_then (λ x. and_then (λ xs. Ok (x, xs)) (and_then (λ y. Ok (y, tt)) v)) u))
    ≡ and_then (λ (p : ℕ × ℕ). Ok (makes (p.0, (p.1, tt)))) (if many then Err cause.TooManyRelations else and_then (λ x. and_then (λ y. Ok (x, y)) v) u)
few_two makes true u v = refl
few_two makes false u v = two_in makes u v

few_three : {A : Type 0} (makes : ℕ × (ℕ × (ℕ × Unit {0})) → A) (many : Bool) (u v w : Result ℕ Cause)
    → (if many then Err cause.TooManyRelations else and_then (λ vs. Ok (makes vs)) (and_then (λ x. and_then (λ xs. Ok (x, xs)) (and_then (λ y. and_then (λ ys. Ok (y, ys)) (and_then (λ z. Ok (z, tt)) w)) v)) u))
    ≡ and_then (λ (p : ℕ × ℕ). and_then (λ z. Ok (makes (p.0, (p.1, (z, tt))))) w) (if many then Err cause.TooManyRelations else and_then (λ x. and_then (λ y. Ok (x, y)) v) u)
few_three makes true u v w = refl
few_three makes false (Err c) v w = refl
few_three makes false (Ok x) (Err c) w = refl
few_three makes false (Ok x) (Ok y) (Err c) = refl
few_three makes false (Ok x) (Ok y) (Ok z) = refl

pub both_read : (version : Version) (o : Posed) (s t : Token) (x y : ℕ) → is_too_many o (count_for_both s t) ≡ false → letter_in version o.alphabet s ≡ Ok x → letter_in version o.alphabet t ≡ Ok y → both_letters version o s t ≡ Ok (x, y)
both_read version o s t x y few h k = rw (few, h, k) refl

-- in a monoid
pub inverse_in : (version : Version) (o : Posed) (tokens : List Token) (s t : Token) → o.congruence.presentation.is_monoid ≡ true → two_tokens tokens ≡ Ok (s, t)
    → added_of version (Presented o) (OfRole Inverse) tokens ≡ and_then (λ (p : ℕ × ℕ). Ok (inverse_relations p.0 p.1 None)) (both_letters version o s t)
inverse_in version o tokens s t monoid h =
    ap (added_of version (Presented o) (OfRole Inverse)) (two_are tokens s t h)
    ∙ rw monoid (few_two (λ v. inverse_relations v.0 v.1.0 None) (is_too_many o (count_for_both s t)) (letter_in version o.alphabet s) (letter_in version o.alphabet t))

pub inverse_missing : (version : Version) (o : Posed) (tokens : List Token) (c : Cause) → o.congruence.presentation.is_monoid ≡ true → two_tokens tokens ≡ Err c → added_of version (Presented o) (OfRole Inverse) tokens ≡ Err c
inverse_missing version o [] c monoid h = rw monoid (let same : cause.WrongNumberOfWords ≡ c = cc in ap (λ c. Err c) same)
inverse_missing version o (s ∷ []) c monoid h = rw monoid (let same : cause.WrongNumberOfWords ≡ c = cc in ap (λ c. Err c) same)
inverse_missing version o (s ∷ t ∷ []) c monoid h = absurd (cc)
inverse_missing version o (s ∷ t ∷ u ∷ tokens) c monoid h = rw monoid (let same : cause.WrongNumberOfWords ≡ c = cc in ap (λ c. Err c) same)

-- in a semigroup
inverse_by_in : (version : Version) (o : Posed) (tokens : List Token) (s t u : Token) → o.congruence.presentation.is_monoid ≡ false → tokens ≡ s ∷ t ∷ u ∷ []
    → added_of version (Presented o) (OfRole Inverse) tokens
    ≡ and_then (λ (p : ℕ × ℕ). and_then (λ e. Ok (inverse_relations p.0 p.1 (Some e))) (letter_in version o.alphabet u)) (both_letters version o s t)
inverse_by_in version o tokens s t u semigroup e =
    ap (added_of version (Presented o) (OfRole Inverse)) e
    ∙ rw semigroup (few_three (λ v. inverse_relations v.0 v.1.0 (Some v.1.1.0)) (is_too_many o (count_for_both s t)) (letter_in version o.alphabet s) (letter_in version o.alphabet t) (letter_in version o.alphabet u))

pub inverse_by_refused : (version : Version) (o : Posed) (tokens : List Token) (s t u : Token) (c : Cause) → o.congruence.presentation.is_monoid ≡ false → tokens ≡ s ∷ t ∷ u ∷ [] → both_letters version o s t ≡ Err c
    → added_of version (Presented o) (OfRole Inverse) tokens ≡ Err c
inverse_by_refused version o tokens s t u c semigroup e h =
    inverse_by_in version o tokens s t u semigroup e ∙ ap (and_then (λ (p : ℕ × ℕ). and_then (λ e. Ok (inverse_relations p.0 p.1 (Some e))) (letter_in version o.alphabet u))) h

pub inverse_by_letter : (version : Version) (o : Posed) (tokens : List Token) (s t u : Token) (x y : ℕ) → o.congruence.presentation.is_monoid ≡ false → tokens ≡ s ∷ t ∷ u ∷ [] → both_letters version o s t ≡ Ok (x, y)
    → (r : Result ℕ Cause) → r ≡ letter_in version o.alphabet u → added_of version (Presented o) (OfRole Inverse) tokens ≡ and_then (λ e. Ok (inverse_relations x y (Some e))) r
inverse_by_letter version o tokens s t u x y semigroup e h r k =
    inverse_by_in version o tokens s t u semigroup e
    ∙ ap (and_then (λ (p : ℕ × ℕ). and_then (λ e. Ok (inverse_relations p.0 p.1 (Some e))) (letter_in version o.alphabet u))) h
    ∙ ap (and_then (λ e. Ok (inverse_relations x y (Some e)))) (sym k)

pub inverse_by_missing : (version : Version) (o : Posed) (tokens : List (Bor (List ℕ))) → o.congruence.presentation.is_monoid ≡ false → length tokens ≢ 3 → added_of version (Presented o) (OfRole Inverse) (texts tokens) ≡ Err cause.WrongNumberOfWords
inverse_by_missing version o [] semigroup h = rw semigroup refl
inverse_by_missing version o (s ∷ []) semigroup h = rw semigroup refl
inverse_by_missing version o (s ∷ t ∷ []) semigroup h = rw semigroup refl
inverse_by_missing version o (s ∷ t ∷ u ∷ []) semigroup h = absurd (h refl)
inverse_by_missing version o (s ∷ t ∷ u ∷ v ∷ tokens) semigroup h = rw semigroup refl

-- the letters that are read may be made inverse
pub inverse_fit : (o : Posed) (x y e : ℕ) → x < length o.alphabet → y < length o.alphabet → e < length o.alphabet → length o.congruence.presentation.relations + length (inverse_relations x y (Some e)) ≤ most_relations → AreInverses o x y (Some e)
inverse_fit o x y e left right unit few = record { left = left; right = right; unit = unit; some = λ none. absurd (cc); few = few }
