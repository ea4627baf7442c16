-- Truncated max-plus matrices, row by row (libsemigroups, MaxPlusTruncMat). No number stands for
-- minus infinity.
use Rattle.std.specs.Prelude.{◌≡◌, ℕ, ◌+◌, ◌*◌, min, max, List, length, All, Option, Some, None}
use Rattle.elements.specs.Fields.{IsBelow}
use Rattle.elements.specs.Matrix.{matrix_product}

pub record TruncatedMatrix : Type 0 where
  pub dimension : ℕ
  pub bound : ℕ
  pub entries : List (Option ℕ)

-- there are as many entries as the dimension asks for, each minus infinity or at most the bound
pub record IsTruncatedMatrix (m : TruncatedMatrix) : Type 0 where
  pub sized : length m.entries ≡ m.dimension * m.dimension
  pub in_range : All (IsBelow (m.bound + 1)) m.entries

-- the maximum, over minus infinity
abbrev pub greater_of : Option ℕ → Option ℕ → Option ℕ
greater_of None q = q
greater_of (Some p) None = Some p
greater_of (Some p) (Some q) = Some (max p q)

-- the sum up to the bound, or minus infinity
abbrev pub truncated_sum : ℕ → Option ℕ → Option ℕ → Option ℕ
truncated_sum bound None q = None
truncated_sum bound (Some p) None = None
truncated_sum bound (Some p) (Some q) = Some (min (p + q) bound)

-- the maximum of truncated sums
abbrev pub truncated_product : TruncatedMatrix → TruncatedMatrix → TruncatedMatrix
truncated_product x y = record {
  dimension = x.dimension;
  bound = x.bound;
  entries = matrix_product greater_of (truncated_sum x.bound) None x.dimension x.entries y.entries;
}
