-- Nodes that are merged, and their marks.
use Rattle.std.specs.Prelude.{◌≡◌, ℕ, ◌<◌, ◌≤◌, Bool, List, length, slice_index, slice_index_or, Option, Some, None}
use Rattle.theory.specs.Word.{Word}
use Rattle.theory.specs.ShortLex.{◌≺◌}
use Rattle.theory.specs.Graph.{Graph, path}
use Rattle.word_graph.specs.Walk.{NoLater}
use Rattle.coincidence.specs.Live.{IsOn}

-- where each node of old has gone in new: a word that led to the node leads there
pub record IsCarried (old new : Graph) (class : List ℕ) : Type 0 where
  pub shape : length class ≡ length old
  pub below : (n : ℕ) → slice_index class n ≤ n
  pub follows : (w : Word) (n : ℕ) → path old 0 w ≡ Some n
      → path new 0 w ≡ Some (slice_index class n)

-- each node of new has the least of the numbers that the words which lead there had in old, of as
-- many numbers
pub record KeepsNumbers (old new : Graph) : Type 0 where
  pub nodes : length new ≡ length old
  pub least : (w : Word) (n m : ℕ) → path new 0 w ≡ Some n → path old 0 w ≡ Some m → n ≤ m
  pub from : (w : Word) (n : ℕ) → path new 0 w ≡ Some n
      → (v : Word) × (path old 0 v ≡ Some n) × (path new 0 v ≡ Some n)

-- exactly the classes of marked nodes are marked afterwards
pub record AreCarried (class : List ℕ) (was is : List Bool) : Type 0 where
  pub shape : length is ≡ length was
  pub kept : (n : ℕ) → IsOn was n → IsOn is (slice_index class n)
  pub from : (m : ℕ) → IsOn is m → (n : ℕ) × IsOn was n × (slice_index class n ≡ m)

-- a word's node is marked in new exactly where the word is related there to one whose node was
-- marked in old
pub record KeepsMarks (old : Graph) (was : List Bool) (new : Graph) (is : List Bool) : Type 0 where
  pub kept : (u v : Word) (n m : ℕ) → path old 0 v ≡ Some m → IsOn was m → path new 0 v ≡ Some n
      → path new 0 u ≡ Some n → IsOn is n
  pub from : (u : Word) (n : ℕ) → path new 0 u ≡ Some n → IsOn is n
      → (v : Word) × (m : ℕ) × (path old 0 v ≡ Some m) × IsOn was m × (path new 0 v ≡ Some n)

-- of the words that lead to nodes without a mark, the least leads to this node
pub record IsFirstUnmarked (g : Graph) (marked : List Bool) (node : ℕ) : Type 0 where
  pub word : Word
  pub leads : path g 0 word ≡ Some node
  pub unmarked : IsOn marked node → ⊥
  pub least : (v : Word) (n : ℕ) → v ≺ word → path g 0 v ≡ Some n → IsOn marked n

-- of the first n words, which lead to these nodes, the place is that of the least whose node has no
-- mark
abbrev pub IsLeastUnmarked : List (ℕ × Word) → List Bool → ℕ → Option ℕ → Type 0
IsLeastUnmarked least marked n None = (i : ℕ) (d : ℕ × Word) → i < n
    → IsOn marked (slice_index_or least i d).0
IsLeastUnmarked least marked n (Some place) =
    (place < n) × ((d : ℕ × Word) → IsOn marked (slice_index_or least place d).0 → ⊥)
    × ((i : ℕ) (d : ℕ × Word) → i < n → (IsOn marked (slice_index_or least i d).0 → ⊥)
    → NoLater (slice_index_or least place d).1 (slice_index_or least i d).1)

-- each node that a word leads to is marked
abbrev pub AllMarked : Graph → List Bool → Type 0
AllMarked g marked = (w : Word) (n : ℕ) → path g 0 w ≡ Some n → IsOn marked n
