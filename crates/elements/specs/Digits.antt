-- The digits of a number in base 16, as a list.
use Rattle.std.specs.Prelude.{ℕ, zero, suc, ◌*◌, ◌/◌, ◌%◌, ◌^◌, List, [], ◌∷◌, map, Option, Some, None}

-- the digit of x at place k, counted from the right: the four bits from place 4 k on
abbrev pub digit_at : ℕ → ℕ → ℕ
digit_at x k = x / 2 ^ (4 * k) % 16

-- the last n digits of x, the highest first
abbrev pub digits : ℕ → ℕ → List ℕ
digits zero x = []
digits (suc n) x = digit_at x n ∷ digits n x

-- what a digit stands for where 0 is none: the number before it
abbrev pub optional : ℕ → Option ℕ
optional zero = None
optional (suc y) = Some y

-- what the last n digits of x stand for
abbrev pub optional_digits : ℕ → ℕ → List (Option ℕ)
optional_digits n x = map optional (digits n x)
