-- The element that the fields of a generator give, or why they give none.
use Rattle.std.specs.Prelude.{ℕ, ◌+◌, ◌*◌, ◌==◌, List, length, if◌then◌else◌, Option, Result, Ok, Err}
use Rattle.std.specs.Option.{ok_or}
use Rattle.elements.specs.declared.field.Field.{Field}
use Rattle.elements.specs.BMat.{BooleanMatrix}
use Rattle.elements.specs.MaxPlus.{TruncatedMatrix}
use Rattle.line_parts.specs.declared.cause.Cause.{Cause}
use Rattle.line_parts.specs.declared.cause.Cause.TheVariants.{WrongNumberOfEntries, BadEntry, NotInjective}
use Rattle.line_parts.specs.Entries.{all_of, below, below_or_dash, bit, is_injective}
use Rattle.line_parts.specs.Outcome.{and_then}

-- as many entries as there should be, and each as it should be
abbrev pub entries_of : {A : Type 0} → ℕ → (Field → Option A) → List Field → Result (List A) Cause
entries_of count entry fields = if length fields == count then ok_or
    (all_of entry fields) BadEntry else Err WrongNumberOfEntries

-- the transformation of as many points as the header says
abbrev pub transformation_of : ℕ × ℕ → List Field → Result (List ℕ) Cause
transformation_of sizes = entries_of sizes.0 (below sizes.0)

-- the partial permutation of as many points as the header says
abbrev pub partial_permutation_of : ℕ × ℕ → List Field → Result (List (Option ℕ)) Cause
partial_permutation_of sizes fields =
    and_then (λ images. if is_injective images then Ok images else Err NotInjective)
    (entries_of sizes.0 (below_or_dash sizes.0) fields)

-- the Boolean matrix of the header's dimension, row by row
abbrev pub boolean_matrix_of : ℕ × ℕ → List Field → Result BooleanMatrix Cause
boolean_matrix_of sizes fields =
    and_then (λ entries. Ok (record { dimension = sizes.0; entries = entries }))
    (entries_of (sizes.0 * sizes.0) bit fields)

-- the max-plus matrix of the header's dimension and bound, row by row
abbrev pub truncated_matrix_of : ℕ × ℕ → List Field → Result TruncatedMatrix Cause
truncated_matrix_of sizes fields =
    and_then (λ entries. Ok (record { dimension = sizes.0; bound = sizes.1; entries = entries }))
    (entries_of (sizes.0 * sizes.0) (below_or_dash (sizes.1 + 1)) fields)
