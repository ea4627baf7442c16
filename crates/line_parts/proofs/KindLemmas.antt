-- The elements of generator lines: those that are read, and why others are refused.
use Rattle.std.proofs.Common.{◌≡◌, ◌≢◌, ℕ, ◌+◌, ◌*◌, ◌<◌, Bool, true, false, List, [], ◌∷◌, length, map, All, Option, Some, Ok, Err, slice_get, get_or, if◌then◌else◌, refl, sym, ap, ◌∙◌, subst, arith}
use Rattle.std.proofs.lemmas.List.{length-map}
use Rattle.std.proofs.lemmas.List.Elements.{All-weaker, All-cons, All-head, All-tail}
use Rattle.elements.specs.declared.field.Field.{Field}
use Rattle.elements.specs.declared.field.Field.TheVariants.{Number}
use Rattle.elements.specs.declared.field.ElementFault.{ElementFault}
use Rattle.elements.specs.declared.field.ElementFault.TheVariants as element
use Rattle.elements.specs.Fields.{IsImage, IsBelow, IsBelowOrDash, field_of}
use Rattle.elements.specs.PPerm.{ArePartialImages, IsFirstRepeat}
use Rattle.elements.specs.BMat.{BooleanMatrix, IsBit, field_of_bit, IsBooleanMatrix}
use Rattle.elements.specs.MaxPlus.{TruncatedMatrix, IsTruncatedMatrix}
use Rattle.line_parts.specs.declared.cause.Cause.TheVariants.{NotInjective, WrongNumberOfEntries, BadEntry}
use Rattle.line_parts.specs.Outcome.{and_then}
use Rattle.line_parts.specs.Faults.{IsLineFault, fault_of_element}
use Rattle.line_parts.specs.Entries.{below, below_or_dash, bit, is_injective}
use Rattle.line_parts.specs.Elements.{entries_of, transformation_of, partial_permutation_of, boolean_matrix_of, truncated_matrix_of}
use Rattle.line_parts.proofs.FaultLemmas.{refused_then}
use Rattle.line_parts.proofs.EntryLemmas.{ReadsEntries, reads_images, reads_partial, reads_bits, good_below, named, entries-some, entries-bad, entries-count}
use Rattle.line_parts.proofs.InjectiveLemmas.{injective, not_injective}

-- a field that is not good
pub record HasBad (IsGood : Field → Type 0) (fields : List Field) (place : ℕ) : Type 0 where
  pub field : Field
  pub at : slice_get fields place ≡ Some field
  pub bad : IsGood field → ⊥

-- what refuses entries, by their count and by the first bad one
pub record RefusesEntries (IsGood : Field → Type 0) (count : ℕ) (fields : List Field) (fault : ElementFault) : Type 0 where
  pub wrong_count : fault ≡ element.BadCount → length fields ≢ count
  pub right_count : (place : ℕ) → fault ≡ element.BadEntry place → length fields ≡ count
  pub bad_entry : (place : ℕ) → fault ≡ element.BadEntry place → HasBad IsGood fields place

-- entries that are refused, not for an image that comes twice
pub entries_refused : {A : Type 0} (IsGood : Field → Type 0) (to : A → Field) (entry : Field → Option A) → ReadsEntries IsGood to entry → (count : ℕ) (fields : List Field) (fault : ElementFault)
    → RefusesEntries IsGood count fields fault → ((place : ℕ) → fault ≡ element.NotInjective place → ⊥) → IsLineFault (entries_of count entry fields) (fault_of_element fault)
entries_refused IsGood to entry reads count fields element.BadCount h once = entries-count IsGood to entry reads count fields (h.wrong_count refl)
entries_refused IsGood to entry reads count fields (element.BadEntry place) h once =
    let bad = h.bad_entry place refl in
    entries-bad IsGood to entry reads count fields place bad.field (h.right_count place refl) bad.at bad.bad
entries_refused IsGood to entry reads count fields (element.NotInjective place) h once = absurd (once place refl)
entries_refused IsGood to entry reads count fields element.NoMemory h once = tt

pub transformation_read : (sizes : ℕ × ℕ) (fields : List Field) (x : List ℕ) → length x ≡ sizes.0 → map Number x ≡ fields → All (λ y. y < sizes.0) x → transformation_of sizes fields ≡ Ok x
transformation_read sizes fields x n e h =
    entries-some (IsImage sizes.0) Number (below sizes.0) (reads_images sizes.0) sizes.0 fields x e (ap length (sym e) ∙ length-map x Number ∙ n) h

partial_entries : (count n : ℕ) (fields : List Field) (x : List (Option ℕ)) → length fields ≡ count → map field_of x ≡ fields → All (IsBelow n) x → entries_of count (below_or_dash n) fields ≡ Ok x
partial_entries count n fields x size e h =
    entries-some (IsBelowOrDash n) field_of (below_or_dash n) (reads_partial n) count fields x e size (All-weaker (IsBelow n) (λ y. IsBelowOrDash n (field_of y)) (good_below n) x h)

pub partial_permutation_read : (sizes : ℕ × ℕ) (fields : List Field) (x : List (Option ℕ)) → length x ≡ sizes.0 → map field_of x ≡ fields → ArePartialImages x → partial_permutation_of sizes fields ≡ Ok x
partial_permutation_read sizes fields x n e valid =
    let in_range : All (IsBelow sizes.0) x = subst (λ m. All (IsBelow m) x) n valid.in_range in
    ap (and_then (λ images. if is_injective images then Ok images else Err NotInjective)) (partial_entries sizes.0 sizes.0 fields x (ap length (sym e) ∙ length-map x field_of ∙ n) e in_range)
    ∙ ap (λ b. if b then Ok x else Err NotInjective) (injective x valid.injective)

All-from_map : {X Y : Type 0} (P : Y → Type 0) (f : X → Y) (xs : List X) → All P (map f xs) → All (λ x. P (f x)) xs
All-from_map P f [] h = λ k d lt. absurd (omega arith)
All-from_map P f (x ∷ xs) h = All-cons (λ y. P (f y)) x xs (All-head P (f x) (map f xs) h) (All-from_map P f xs (All-tail P (f x) (map f xs) h))

-- an image that comes twice
pub partial_permutation_again : (sizes : ℕ × ℕ) (fields : List Field) (place : ℕ) → length fields ≡ sizes.0 → All (IsBelowOrDash sizes.0) fields → IsFirstRepeat fields place → partial_permutation_of sizes fields ≡ Err NotInjective
partial_permutation_again sizes fields place n good repeat =
    let xs = named sizes.0 fields good in
    let again = repeat.at in
    let refused : is_injective xs.0 ≡ false =
    not_injective xs.0 again.0 place again.1.image again.1.before (ap (λ fs. slice_get fs again.0) xs.1 ∙ again.1.first) (ap (λ fs. slice_get fs place) xs.1 ∙ again.1.again) in
    ap (and_then (λ images. if is_injective images then Ok images else Err NotInjective))
    (entries-some (IsBelowOrDash sizes.0) field_of (below_or_dash sizes.0) (reads_partial sizes.0) sizes.0 fields xs.0 xs.1 n (All-from_map (IsBelowOrDash sizes.0) field_of xs.0 (subst (All (IsBelowOrDash sizes.0)) (sym xs.1) good)))
    ∙ ap (λ b. if b then Ok xs.0 else Err NotInjective) refused

pub boolean_matrix_read : (sizes : ℕ × ℕ) (fields : List Field) (m : BooleanMatrix) → m.dimension ≡ sizes.0 → map field_of_bit m.entries ≡ fields → IsBooleanMatrix m → boolean_matrix_of sizes fields ≡ Ok m
boolean_matrix_read sizes fields m d e valid =
    let size : length fields ≡ sizes.0 * sizes.0 = ap length (sym e) ∙ length-map m.entries field_of_bit ∙ valid ∙ ap (λ n. n * n) d in
    ap (and_then (λ (entries : List Bool). Ok (record { dimension = sizes.0; entries = entries })))
    (entries-some IsBit field_of_bit bit reads_bits (sizes.0 * sizes.0) fields m.entries e size (λ k b lt. good_bit (get_or m.entries k b)))
    ∙ ap (λ n. Ok (record { dimension = n; entries = m.entries })) (sym d)
  where
    good_bit : (b : Bool) → IsBit (field_of_bit b)
    good_bit true = omega arith
    good_bit false = omega arith

pub truncated_matrix_read : (sizes : ℕ × ℕ) (fields : List Field) (m : TruncatedMatrix) → m.dimension ≡ sizes.0 → m.bound ≡ sizes.1 → map field_of m.entries ≡ fields → IsTruncatedMatrix m → truncated_matrix_of sizes fields ≡ Ok m
truncated_matrix_read sizes fields m d t e valid =
    let size : length fields ≡ sizes.0 * sizes.0 = ap length (sym e) ∙ length-map m.entries field_of ∙ valid.sized ∙ ap (λ n. n * n) d in
    let in_range : All (IsBelow (sizes.1 + 1)) m.entries = subst (λ b. All (IsBelow (b + 1)) m.entries) t valid.in_range in
    ap (and_then (λ (entries : List (Option ℕ)). Ok (record { dimension = sizes.0; bound = sizes.1; entries = entries }))) (partial_entries (sizes.0 * sizes.0) (sizes.1 + 1) fields m.entries size e in_range)
    ∙ ap (λ n. Ok (record { dimension = n; bound = sizes.1; entries = m.entries })) (sym d)
    ∙ ap (λ b. Ok (record { dimension = m.dimension; bound = b; entries = m.entries })) (sym t)

-- why a partial permutation is refused
pub partial_permutation_refused : (sizes : ℕ × ℕ) (fields : List Field) (fault : ElementFault) → RefusesEntries (IsBelowOrDash sizes.0) sizes.0 fields fault
    → ((place : ℕ) → fault ≡ element.NotInjective place → (length fields ≡ sizes.0) × All (IsBelowOrDash sizes.0) fields × IsFirstRepeat fields place) → IsLineFault (partial_permutation_of sizes fields) (fault_of_element fault)
partial_permutation_refused sizes fields element.BadCount h again =
    refused_then _ _ (Some WrongNumberOfEntries) (entries_refused (IsBelowOrDash sizes.0) field_of (below_or_dash sizes.0) (reads_partial sizes.0) sizes.0 fields element.BadCount h (λ place e. absurd (cc)))
partial_permutation_refused sizes fields (element.BadEntry place) h again =
    refused_then _ _ (Some BadEntry) (entries_refused (IsBelowOrDash sizes.0) field_of (below_or_dash sizes.0) (reads_partial sizes.0) sizes.0 fields (element.BadEntry place) h (λ place e. absurd (cc)))
partial_permutation_refused sizes fields (element.NotInjective place) h again =
    let found = again place refl in partial_permutation_again sizes fields place found.0 found.1 found.2
partial_permutation_refused sizes fields element.NoMemory h again = tt
