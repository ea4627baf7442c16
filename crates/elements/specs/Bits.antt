-- The binary digits of a number, as a list.
use Rattle.std.specs.Prelude.{ℕ, zero, suc, ◌+◌, ◌*◌, ◌^◌, Bool, List, [], ◌∷◌, ◌==◌}
use Rattle.std.specs.Int.{bit_at}

-- the last n binary digits of x, the highest first
abbrev pub bits : ℕ → ℕ → List Bool
bits zero x = []
bits (suc n) x = (bit_at x n == 1) ∷ bits n x

-- rows of n binary digits, each 0 but for a 1 at its end
abbrev pub column_of_ones : ℕ → ℕ → ℕ
column_of_ones n zero = 0
column_of_ones n (suc rows) = column_of_ones n rows * 2 ^ n + 1
