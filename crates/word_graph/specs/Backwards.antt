-- The least words of nodes that are read backwards.
use Rattle.std.specs.Prelude.{◌≡◌, ℕ, ◌<◌, List, [], length, slice_index_or, Some}
use Rattle.theory.specs.Word.{Word}
use Rattle.theory.specs.Graph.{Graph, path, IsGraph}
use Rattle.theory.specs.Backwards.{IsLeastBackwards}

-- some word leads to each node
abbrev pub AreAllReached : Graph → Type 0
AreAllReached g = (node : ℕ) → node < length g → (u : Word) × (path g 0 u ≡ Some node)

-- for each node, in ascending order, the least word that, read backwards, leads to it
pub record AreLeastBackwards (g : Graph) (words : List Word) : Type 0 where
  pub count : length words ≡ length g
  pub least : (k : ℕ) → IsGraph k g → (node : ℕ) → node < length g
      → IsLeastBackwards k g node (slice_index_or words node [])
