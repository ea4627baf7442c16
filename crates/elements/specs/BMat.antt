-- Boolean matrices, row by row (libsemigroups, BMat).
use Rattle.std.specs.Prelude.{◌≡◌, ℕ, ◌*◌, ◌<◌, Bool, true, false, ◌||◌, ◌&&◌, List, length, codes}
use Rattle.elements.specs.declared.field.Field.{Field}
use Rattle.elements.specs.declared.field.Field.TheVariants.{Number, Dash, Bad}
use Rattle.elements.specs.Matrix.{matrix_product}

pub record BooleanMatrix : Type 0 where
  pub dimension : ℕ
  pub entries : List Bool

-- there are as many entries as the dimension asks for
abbrev pub IsBooleanMatrix : BooleanMatrix → Type 0
IsBooleanMatrix m = length m.entries ≡ m.dimension * m.dimension

-- `or` of `and`
abbrev pub boolean_product : BooleanMatrix → BooleanMatrix → BooleanMatrix
boolean_product x y = record {
  dimension = x.dimension;
  entries = matrix_product ◌||◌ ◌&&◌ false x.dimension x.entries y.entries;
}

-- 0 or 1
abbrev pub IsBit : Field → Type 0
IsBit (Number y) = y < 2
IsBit Dash = ⊥
IsBit Bad = ⊥

abbrev pub field_of_bit : Bool → Field
field_of_bit true = Number 1
field_of_bit false = Number 0

abbrev pub bit_text : Bool → List ℕ
bit_text true = codes "1"
bit_text false = codes "0"
