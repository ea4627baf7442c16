-- Letters that lines give a role, and how many relations they get.
use Rattle.std.proofs.Common.{◌≡◌, ◌≢◌, ℕ, ◌+◌, ◌*◌, ◌-◌, ◌==◌, ◌≤◌, Bool, true, false, if◌then◌else◌, List, [], ◌∷◌, length, length-append, get_or, Option, Some, None, is_none, Result, Ok, Err, OnErr, OnOk, refl, sym, ap, ◌∙◌, subst, arith}
use Rattle.std.proofs.lemmas.Bool.{eqb-true, ltb-false}
use Rattle.std.proofs.lemmas.List.Quantifiers.{position-Some}
use Rattle.std.specs.Cmp.Lexicographic.{same_text, other_text}
use Rattle.std.specs.Option.{ok_or}
use Rattle.theory.specs.Word.{Word, IsOver}
use Rattle.theory.proofs.Related.{element_over}
use Rattle.words.specs.Alphabet.{is_letter, place_of}
use Rattle.words.proofs.TextLaws.{place_below}
use Rattle.presentation.specs.Presented.{IsPresented, Posed, Presented, with_more}
use Rattle.presentation.specs.Added.{both_products, products_with}
use Rattle.presentation.proofs.AddedLemmas.{both_count, both_count_same, products_count}
use Rattle.line_parts.specs.declared.cause.Cause.{Cause}
use Rattle.line_parts.specs.declared.cause.Cause.TheVariants as cause
use Rattle.line_parts.specs.declared.version.Version.{Version}
use Rattle.line_parts.specs.Outcome.{and_then}
use Rattle.line_parts.specs.Token.{Token, is_word, letter_of}
use Rattle.line_parts.specs.Versions.{is_wide}
use Rattle.query_lang.specs.Relations.{IsOutline, IsSide, most_relations, outlined}
use Rattle.query_lang.specs.Roles.{count_for, count_for_both, is_too_many, letter_in}

one_byte : (wide : Bool) (t : Token) (b : ℕ) → letter_of wide t ≡ Some b → t ≡ b ∷ []
one_byte wide [] b h = absurd (cc)
one_byte wide (c ∷ d ∷ t) b h = absurd (cc)
one_byte wide (c ∷ []) b h = by (is_letter wide c) h
  where
    by : (yes : Bool) → (if yes then Some c else None) ≡ Some b → c ∷ [] ≡ b ∷ []
    by true h = cc
    by false h = absurd (cc)

-- a letter is one byte, in its place of the alphabet
letter_is : (version : Version) (letters : List ℕ) (t : Token) (x : ℕ) → letter_in version letters t ≡ Ok x → (b : ℕ) × (t ≡ b ∷ []) × (place_of letters b ≡ Some x)
letter_is version letters t x h = by (letter_of (is_wide version) t) refl h
  where
    placed : (o : Option ℕ) → ok_or o cause.NotInAlphabet ≡ Ok x → o ≡ Some x
    placed None h = absurd (cc)
    placed (Some y) h = cc

    by : (o : Option ℕ) → letter_of (is_wide version) t ≡ o → and_then (λ b. ok_or (place_of letters b) cause.NotInAlphabet) (ok_or o cause.NotALetter) ≡ Ok x
        → (b : ℕ) × (t ≡ b ∷ []) × (place_of letters b ≡ Some x)
    by None e h = absurd (cc)
    by (Some b) e h = (b, one_byte (is_wide version) t b e, placed (place_of letters b) h)

-- an identity and a zero get as many relations as their text says
pub count_is : (version : Version) (letters : List ℕ) (t : Token) (x : ℕ) (f : ℕ → Word) → letter_in version letters t ≡ Ok x → length (products_with x f (length letters)) ≡ count_for letters t
count_is version letters t x f h =
    let l = letter_is version letters t x h in
    let told : count_for letters t ≡ 2 * length letters - 1 = ap (count_for letters) l.1 ∙ ap (λ o. 2 * length letters - (if is_none o then 0 else 1)) l.2 in
    let count : length (products_with x f (length letters)) + 1 ≡ length letters + length letters = products_count x f (length letters) (place_below letters l.0 x l.2) in
    omega (arith, told, count)

-- where they are not too many by their text, they are not too many
pub few_with : (version : Version) (o : Posed) (t : Token) (x : ℕ) (f : ℕ → Word) → is_too_many o (count_for o.alphabet t) ≡ false → letter_in version o.alphabet t ≡ Ok x
    → length o.congruence.presentation.relations + length (products_with x f (length o.alphabet)) ≤ most_relations
few_with version o t x f few h =
    subst (λ n. length o.congruence.presentation.relations + n ≤ most_relations) (sym (count_is version o.alphabet t x f h))
    (ltb-false most_relations (length o.congruence.presentation.relations + count_for o.alphabet t) few)

-- the byte in the place of a letter
byte_there : (letters : List ℕ) (b x : ℕ) → place_of letters b ≡ Some x → get_or letters x 0 ≡ b
byte_there letters b x h = eqb-true (get_or letters x 0) b (position-Some (λ y. y == b) letters x 0 h).1

-- and so do inverses
pub both_counted : (version : Version) (letters : List ℕ) (s t : Token) (x y : ℕ) (w : Word) → letter_in version letters s ≡ Ok x → letter_in version letters t ≡ Ok y → length (both_products x y w) ≡ count_for_both s t
both_counted version letters s t x y w h k = by (is_word s t) refl
  where
    same_place : s ≡ t → y ≡ x
    same_place e = let one : ◌≡◌ {A = Result ℕ Cause} (Ok y) (Ok x) = sym k ∙ ap (letter_in version letters) (sym e) ∙ h in cc

    same_byte : x ≡ y → t ≡ s
    same_byte e =
        let l = letter_is version letters s x h in
        let m = letter_is version letters t y k in
        let bytes : l.0 ≡ m.0 = sym (byte_there letters l.0 x l.2) ∙ ap (λ n. get_or letters n 0) e ∙ byte_there letters m.0 y m.2 in
        m.1 ∙ ap (λ b. b ∷ []) (sym bytes) ∙ sym l.1

    apart : t ≢ s → (b : Bool) → (x == y) ≡ b → (x == y) ≡ false
    apart other true e = absurd (other (same_byte (eqb-true x y e)))
    apart other false e = e

    by : (b : Bool) → is_word s t ≡ b → length (both_products x y w) ≡ (if b then 1 else 2)
    by true e = ap (λ n. length (both_products x n w)) (same_place (sym (same_text t s (sym e)))) ∙ both_count_same x w
    by false e = both_count x y w (apart (other_text t s (sym e)) (x == y) refl)

pub few_inverse : (version : Version) (o : Posed) (s t : Token) (x y : ℕ) (w : Word) → is_too_many o (count_for_both s t) ≡ false → letter_in version o.alphabet s ≡ Ok x → letter_in version o.alphabet t ≡ Ok y
    → length o.congruence.presentation.relations + length (both_products x y w) ≤ most_relations
few_inverse version o s t x y w few h k =
    subst (λ n. length o.congruence.presentation.relations + n ≤ most_relations) (sym (both_counted version o.alphabet s t x y w h k))
    (ltb-false most_relations (length o.congruence.presentation.relations + count_for_both s t) few)

-- an outline with more relations is one, where they are not too many
pub more_outlined : (p next : Presented) (o : Posed) (more : List (Word × Word)) → IsOutline (outlined p) → outlined p ≡ o → next ≡ with_more p more → length o.congruence.presentation.relations + length more ≤ most_relations → IsOutline (outlined next)
more_outlined p next o more is view e few =
    let room : length p.presentation.relations + length more ≤ most_relations = subst (λ (o : Posed). length o.congruence.presentation.relations + length more ≤ most_relations) (sym view) few in
    subst (λ next. IsOutline (outlined next)) (sym e) (record { few = omega (arith, length-append p.presentation.relations more, room); unmarked = is.unmarked })

-- and so is one to which they were to be added
pub outlined_after : {T E : Type 0} (r : Result T E) (p next : Presented) (o : Posed) (more : List (Word × Word)) → IsOutline (outlined p) → outlined p ≡ o → OnOk r (next ≡ with_more p more) → OnErr r (next ≡ p)
    → length o.congruence.presentation.relations + length more ≤ most_relations → IsOutline (outlined next)
outlined_after (Ok v) p next o more is view ok err few = more_outlined p next o more is view ok few
outlined_after (Err e) p next o more is view ok err few = subst (λ next. IsOutline (outlined next)) (sym err) is

-- an outline has the letters of its presentation
pub outline_letters : (p : Presented) (o : Posed) → IsPresented p → outlined p ≡ o → p.presentation.letters ≡ length o.alphabet
outline_letters p o is view = is.letters ∙ ap (λ (o : Posed). length o.alphabet) view

pub side_over : (p : Presented) (o : Posed) (w : Word) → IsPresented p → outlined p ≡ o → IsSide o w → IsOver p.presentation.letters w
side_over p o w is view side = subst (λ n. IsOver n w) (sym (outline_letters p o is view)) (element_over o.congruence.presentation.is_monoid (length o.alphabet) w side)
