-- Lists with no image twice.
use Rattle.std.proofs.Common.{◌≡◌, ℕ, zero, suc, ◌<◌, Bool, true, false, not, ◌&&◌, ◌||◌, ◌==◌, List, [], ◌∷◌, map, Option, Some, None, slice_get, refl, sym, ap, ◌∙◌, arith}
use Rattle.std.proofs.lemmas.Bool.{eq-eqb, ne_eqb}
use Rattle.std.specs.Prelude.{slice_index_or}
use Rattle.std.specs.List.{list_any}
use Rattle.std.specs.Option.{option_eq}
use Rattle.elements.specs.declared.field.Field.TheVariants.{Number}
use Rattle.elements.specs.Fields.{field_of}
use Rattle.elements.specs.PPerm.{IsInjective}
use Rattle.line_parts.specs.Entries.{is_injective}

not_there : (y : ℕ) (xs : List (Option ℕ)) → ((j : ℕ) → slice_index_or xs j None ≡ Some y → ⊥) → list_any (option_eq ◌==◌ (Some y)) xs ≡ false
not_there y [] h = refl
not_there y (None ∷ xs) h = not_there y xs (λ j. h (suc j))
not_there y (Some z ∷ xs) h =
    ap (λ b. b || list_any (option_eq ◌==◌ (Some y)) xs) (ne_eqb y z (λ e. h 0 (ap Some (sym e)))) ∙ not_there y xs (λ j. h (suc j))

there : (y : ℕ) (xs : List (Option ℕ)) (place : ℕ) → slice_get (map field_of xs) place ≡ Some (Number y) → list_any (option_eq ◌==◌ (Some y)) xs ≡ true
there y [] place e = absurd (cc)
there y (None ∷ xs) zero e = absurd (cc)
there y (None ∷ xs) (suc place) e = there y xs place e
there y (Some z ∷ xs) zero e = let same : y ≡ z = cc in ap (λ b. b || list_any (option_eq ◌==◌ (Some y)) xs) (eq-eqb y z same)
there y (Some z ∷ xs) (suc place) e = or_true (y == z) (there y xs place e)
  where
    or_true : (b : Bool) {c : Bool} → c ≡ true → (b || c) ≡ true
    or_true true h = refl
    or_true false h = h

-- a list without an image twice
pub injective : (xs : List (Option ℕ)) → IsInjective xs → is_injective xs ≡ true
injective [] h = refl
injective (None ∷ xs) h = injective xs (λ i j y p q. let e : suc i ≡ suc j = h (suc i) (suc j) y p q in omega arith)
injective (Some y ∷ xs) h =
    ap (λ b. not b && is_injective xs) (not_there y xs (λ j p. let e : 0 ≡ suc j = h 0 (suc j) y refl p in omega arith))
    ∙ injective xs (λ i j z p q. let e : suc i ≡ suc j = h (suc i) (suc j) z p q in omega arith)

and_false : (b : Bool) {c : Bool} → c ≡ false → (b && c) ≡ false
and_false true h = h
and_false false h = refl

-- a list with an image twice
pub not_injective : (xs : List (Option ℕ)) (i place y : ℕ) → i < place → slice_get (map field_of xs) i ≡ Some (Number y) → slice_get (map field_of xs) place ≡ Some (Number y) → is_injective xs ≡ false
not_injective [] i place y lt p q = absurd (cc)
not_injective (x ∷ xs) i zero y lt p q = absurd (omega arith)
not_injective (None ∷ xs) zero (suc place) y lt p q = absurd (cc)
not_injective (Some z ∷ xs) zero (suc place) y lt p q =
    let same : y ≡ z = cc in
    ap (λ b. not b && is_injective xs) (ap (λ w. list_any (option_eq ◌==◌ (Some w)) xs) (sym same) ∙ there y xs place q)
not_injective (None ∷ xs) (suc i) (suc place) y lt p q = not_injective xs i place y (omega arith) p q
not_injective (Some z ∷ xs) (suc i) (suc place) y lt p q =
    and_false (not (list_any (option_eq ◌==◌ (Some z)) xs)) (not_injective xs i place y (omega arith) p q)
