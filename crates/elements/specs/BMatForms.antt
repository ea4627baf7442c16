-- Boolean matrices as they are kept: up to eight rows as one number.
use Rattle.std.specs.Prelude.{◌≡◌, ◌*◌, ◌<◌, ◌≤◌, ◌^◌, length}
use Rattle.elements.specs.declared.bmat.Form.{Form}
use Rattle.elements.specs.declared.bmat.Form.TheVariants.{Packed, Long}
use Rattle.elements.specs.Bits.{bits}
use Rattle.elements.specs.BMat.{BooleanMatrix}

-- the matrix that is kept
abbrev pub matrix_of : Form → BooleanMatrix
matrix_of (Packed n x) = record { dimension = n; entries = bits (n * n) x }
matrix_of (Long m) = record { dimension = m.value.dimension; entries = m.value.entries.items }

-- what is packed has up to eight rows and no digit beyond them, and what is not has more
abbrev pub IsForm : Form → Type 0
IsForm (Packed n x) = (n ≤ 8) × (x < 2 ^ (n * n))
IsForm (Long m) =
    (8 < m.value.dimension)
    × (length m.value.entries.items ≡ m.value.dimension * m.value.dimension)
