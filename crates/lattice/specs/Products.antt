-- The product of two tables, whose nodes are pairs of theirs. A pair is one number: the node of the
-- first times how many nodes the second has, and the node of the second.
use Rattle.std.specs.Prelude.{◌≡◌, ℕ, ◌*◌, ◌/◌, ◌%◌, ◌<◌, ◌≤◌, ◌⊎◌, List, length, slice_index, Some}
use Rattle.theory.specs.Graph.{Graph, target, IsComplete, IsGraph}
use Rattle.theory.specs.Lattice.{IsProductOf}
use Rattle.word_graph.specs.Walk.{IsBefore}

-- the edges of the letter lead from the nodes of the one pair to those of the other
pub record IsStep (s t : Graph) (pair letter to : ℕ) : Type 0 where
  pub left : target s (pair / length t) letter ≡ Some (to / length t)
  pub right : target t (pair % length t) letter ≡ Some (to % length t)

-- the pairs that are found, each with a node of g; g has the edges of the pairs before a place and
-- letter, and each of its edges leads where those of the two tables lead
pub record IsBegun (k : ℕ) (s t : Graph) (pairs : List ℕ) (g : Graph) (place letter : ℕ) : Type 0
  where
    pub graph : IsGraph k g
    pub count : length g ≡ length pairs
    pub some : 0 < length pairs
    pub root : slice_index pairs 0 ≡ 0
    pub within : (i : ℕ) → i < length pairs → slice_index pairs i < length s * length t
    pub edges : (i b next : ℕ) → target g i b ≡ Some next
        → IsStep s t (slice_index pairs i) b (slice_index pairs next)
    pub done : (i b : ℕ) → IsBefore i b place letter → i < length g → b < k
        → (next : ℕ) × (target g i b ≡ Some next)

-- the pair has the node: where it had none, it stands last and the node is a new one without edges
pub record HasNode (k : ℕ) (old new : List ℕ) (g h : Graph) (pair node : ℕ) : Type 0 where
  pub graph : IsGraph k h
  pub count : length h ≡ length new
  pub more : length old ≤ length new
  pub within : node < length new
  pub found : slice_index new node ≡ pair
  pub kept : (i : ℕ) → i < length old → slice_index new i ≡ slice_index old i
  pub others : (i : ℕ) → i < length new → (i < length old) ⊎ (slice_index new i ≡ pair)
  pub edges : (i b : ℕ) → target h i b ≡ target g i b

-- each node of g stands for a pair of nodes, no two for the same, each edge leads where both lead,
-- and none is missing
pub record IsProduct (k : ℕ) (s t g : Graph) : Type 0 where
  pub graph : IsGraph k g
  pub left : ℕ → ℕ
  pub right : ℕ → ℕ
  pub product : IsProductOf s t g left right
  pub complete : IsComplete k g
