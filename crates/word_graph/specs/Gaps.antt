-- Lists with gaps.
use Rattle.std.specs.Prelude.{ℕ, ◌+◌, List, [], ◌∷◌, Option, Some, None}

module _ {X : Type 0} where
  -- how many are none
  abbrev pub count_none : List (Option X) → ℕ
  count_none [] = 0
  count_none (None ∷ xs) = 1 + count_none xs
  count_none (Some x ∷ xs) = count_none xs
