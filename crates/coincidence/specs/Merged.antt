-- What follows when two nodes become one.
use Rattle.std.specs.Prelude.{◌≡◌, ℕ, [], ◌⊎◌, Some}
use Rattle.theory.specs.Word.{Word}
use Rattle.theory.specs.Facts.{Follows}
use Rattle.theory.specs.Graph.{Graph, path, SameEnd}

-- both words have a path to one node, or the first leads to x and the second to y
abbrev pub WithPair : Graph → ℕ → ℕ → Word → Word → Type 0
WithPair g x y u v = SameEnd g u v ⊎ ((path g 0 u ≡ Some x) × (path g 0 v ≡ Some y))

-- the least relation that has what the paths relate and words that lead to x and to y, is symmetric
-- and transitive, and is kept when a letter is added to defined words
abbrev pub MergedNodes : Graph → ℕ → ℕ → Word → Word → Type 0
MergedNodes g x y = Follows [] [] (WithPair g x y) (λ w. ⊥)
