-- Entries, by their fields.
use Rattle.std.proofs.Common.{◌≡◌, ◌≢◌, ℕ, zero, suc, ◌<◌, ◌≤◌, Bool, true, false, ◌==◌, if◌then◌else◌, List, [], ◌∷◌, length, map, All, Option, Some, None, Ok, Err, option_and_then, slice_get, nat_lt, refl, sym, ap, ◌∙◌, subst, arith}
use Rattle.std.proofs.lemmas.Grind.{common_steps}
use Rattle.std.proofs.lemmas.List.Elements.{All-head, All-tail}
use Rattle.std.proofs.lemmas.Bool.{eq-eqb, ne_eqb}
use Rattle.std.specs.Option.{ok_or}
use Rattle.elements.specs.declared.field.Field.{Field}
use Rattle.elements.specs.declared.field.Field.TheVariants.{Number, Dash, Bad}
use Rattle.elements.specs.Fields.{IsImage, IsBelow, IsBelowOrDash, field_of}
use Rattle.elements.specs.BMat.{IsBit, field_of_bit}
use Rattle.line_parts.specs.declared.cause.Cause.TheVariants.{WrongNumberOfEntries, BadEntry}
use Rattle.line_parts.specs.Entries.{below, below_or_dash, bit, all_of}
use Rattle.line_parts.specs.Elements.{entries_of}

-- a way to read entries: each good field has its entry, and no other field has one
pub record ReadsEntries {A : Type 0} (IsGood : Field → Type 0) (to : A → Field) (entry : Field → Option A) : Type 0 where
  pub some : (x : A) → IsGood (to x) → entry (to x) ≡ Some x
  pub none : (f : Field) → (IsGood f → ⊥) → entry f ≡ None

is_below : {A : Type 0} (y n : ℕ) (x z : A) → y < n → (if nat_lt y n then x else z) ≡ x
is_below y n x z h = grind (arith, common_steps)

is_not_below : {A : Type 0} (y n : ℕ) (x z : A) → (y < n → ⊥) → (if nat_lt y n then x else z) ≡ z
is_not_below y n x z h = let le : n ≤ y = omega (arith, h) in grind (arith, common_steps)

pub reads_images : (n : ℕ) → ReadsEntries (IsImage n) Number (below n)
reads_images n = record { some = λ y h. is_below y n (Some y) None h; none = none }
  where
    none : (f : Field) → (IsImage n f → ⊥) → below n f ≡ None
    none (Number y) h = is_not_below y n (Some y) None h
    none Dash h = refl
    none Bad h = refl

pub reads_partial : (n : ℕ) → ReadsEntries (IsBelowOrDash n) field_of (below_or_dash n)
reads_partial n = record { some = some; none = none }
  where
    some : (x : Option ℕ) → IsBelowOrDash n (field_of x) → below_or_dash n (field_of x) ≡ Some x
    some (Some y) h = is_below y n (Some (Some y)) None h
    some None h = refl

    none : (f : Field) → (IsBelowOrDash n f → ⊥) → below_or_dash n f ≡ None
    none (Number y) h = is_not_below y n (Some (Some y)) None h
    none Dash h = absurd (h tt)
    none Bad h = refl

pub reads_bits : ReadsEntries IsBit field_of_bit bit
reads_bits = record { some = some; none = none }
  where
    some : (b : Bool) → IsBit (field_of_bit b) → bit (field_of_bit b) ≡ Some b
    some true h = refl
    some false h = refl

    none : (f : Field) → (IsBit f → ⊥) → bit f ≡ None
    none (Number y) h =
        ap (λ b. if b then Some false else if y == 1 then Some true else None) (ne_eqb y 0 (λ e. h (omega arith)))
        ∙ ap (λ b. if b then Some true else None) (ne_eqb y 1 (λ e. h (omega arith)))
    none Dash h = refl
    none Bad h = refl

-- an entry below n is a good field
pub good_below : (n : ℕ) (x : Option ℕ) → IsBelow n x → IsBelowOrDash n (field_of x)
good_below n (Some y) h = h
good_below n None h = tt

-- good fields are those of entries
pub named : (n : ℕ) (fields : List Field) → All (IsBelowOrDash n) fields → (xs : List (Option ℕ)) × (map field_of xs ≡ fields)
named n [] h = ([], refl)
named n (Number y ∷ fs) h = let rest = named n fs (All-tail (IsBelowOrDash n) (Number y) fs h) in (Some y ∷ rest.0, ap (λ gs. Number y ∷ gs) rest.1)
named n (Dash ∷ fs) h = let rest = named n fs (All-tail (IsBelowOrDash n) Dash fs h) in (None ∷ rest.0, ap (λ gs. Dash ∷ gs) rest.1)
named n (Bad ∷ fs) h = absurd (All-head (IsBelowOrDash n) Bad fs h)

module _ {A : Type 0} (IsGood : Field → Type 0) (to : A → Field) (entry : Field → Option A) (reads : ReadsEntries IsGood to entry) where
  all-some : (xs : List A) → All (λ x. IsGood (to x)) xs → all_of entry (map to xs) ≡ Some xs
  all-some [] h = refl
  all-some (x ∷ xs) h =
      let first : entry (to x) ≡ Some x = reads.some x (All-head (λ z. IsGood (to z)) x xs h) in
      let rest : all_of entry (map to xs) ≡ Some xs = all-some xs (All-tail (λ z. IsGood (to z)) x xs h) in
      rw (first, rest) refl

  all-none : (fields : List Field) (place : ℕ) (f : Field) → slice_get fields place ≡ Some f → (IsGood f → ⊥) → all_of entry fields ≡ None
  all-none [] place f e h = absurd (cc)
  all-none (g ∷ fs) zero f e h =
      let same : g ≡ f = cc in
      let first : entry g ≡ None = reads.none g (λ p. h (subst IsGood same p)) in
      rw first refl
  all-none (g ∷ fs) (suc place) f e h =
      let rest : all_of entry fs ≡ None = all-none fs place f e h in
      rw rest (no_rest (entry g))
    where
      no_rest : (o : Option A) → option_and_then (λ (x : A). option_and_then (λ (xs : List A). Some (x ∷ xs)) None) o ≡ None
      no_rest (Some x) = refl
      no_rest None = refl

  pub entries-some : (count : ℕ) (fields : List Field) (xs : List A) → map to xs ≡ fields → length fields ≡ count → All (λ x. IsGood (to x)) xs → entries_of count entry fields ≡ Ok xs
  entries-some count fields xs e n h =
      ap (λ b. if b then ok_or (all_of entry fields) BadEntry else Err WrongNumberOfEntries) (eq-eqb (length fields) count n)
      ∙ ap (λ fs. ok_or (all_of entry fs) BadEntry) (sym e) ∙ ap (λ o. ok_or o BadEntry) (all-some xs h)

  pub entries-bad : (count : ℕ) (fields : List Field) (place : ℕ) (f : Field) → length fields ≡ count → slice_get fields place ≡ Some f → (IsGood f → ⊥) → entries_of count entry fields ≡ Err BadEntry
  entries-bad count fields place f n e h =
      ap (λ b. if b then ok_or (all_of entry fields) BadEntry else Err WrongNumberOfEntries) (eq-eqb (length fields) count n)
      ∙ ap (λ o. ok_or o BadEntry) (all-none fields place f e h)

  pub entries-count : (count : ℕ) (fields : List Field) → length fields ≢ count → entries_of count entry fields ≡ Err WrongNumberOfEntries
  entries-count count fields n = ap (λ b. if b then ok_or (all_of entry fields) BadEntry else Err WrongNumberOfEntries) (ne_eqb (length fields) count n)
