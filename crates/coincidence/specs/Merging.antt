-- Classes of nodes, and the graph of the classes.
use Rattle.std.specs.Prelude.{◌≡◌, ℕ, ◌≤◌, List, length, slice_index, Some, cond, nat_eq}
use Rattle.theory.specs.Word.{Word}
use Rattle.theory.specs.Graph.{Graph, target, path, IsGraph}
use Rattle.word_graph.specs.Walk.{IsBefore}
use Rattle.coincidence.specs.Merged.{MergedNodes}

-- new is the graph of the classes of old's nodes
pub record IsFolded (old : Graph) (class : List ℕ) (new : Graph) : Type 0 where
  pub edge : (n a m : ℕ) → target old n a ≡ Some m
      → target new (slice_index class n) a ≡ Some (slice_index class m)
  pub back : (c a t : ℕ) → target new c a ≡ Some t
      → (n m : ℕ) × (slice_index class n ≡ c) × (target old n a ≡ Some m)
      × (slice_index class m ≡ t)

-- edges of one letter from one class lead to the classes s and t
pub record IsClash (old : Graph) (class : List ℕ) (s t : ℕ) : Type 0 where
  pub n : ℕ
  pub n' : ℕ
  pub a : ℕ
  pub m : ℕ
  pub m' : ℕ
  pub together : slice_index class n ≡ slice_index class n'
  pub first : target old n a ≡ Some m
  pub second : target old n' a ≡ Some m'
  pub s_is : s ≡ slice_index class m
  pub t_is : t ≡ slice_index class m'

-- some word leads to the node
abbrev pub IsReached : Graph → ℕ → Type 0
IsReached g n = (w : Word) × (path g 0 w ≡ Some n)

-- each node with an edge is reached
abbrev pub EdgesReached : Graph → Type 0
EdgesReached g = (n a m : ℕ) → target g n a ≡ Some m → IsReached g n

-- words that lead into one class are related by F
abbrev pub IsSound : Graph → List ℕ → (Word → Word → Type 0) → Type 0
IsSound g class F = (u v : Word) (n m : ℕ) → path g 0 u ≡ Some n → path g 0 v ≡ Some m
    → slice_index class n ≡ slice_index class m → F u v

-- classes of nodes, each named by its least, of which each holds only nodes that follow to be one
-- once x and y are
pub record IsClassing (g : Graph) (x y : ℕ) (class : List ℕ) : Type 0 where
  pub shape : length class ≡ length g
  pub below : (n : ℕ) → slice_index class n ≤ n
  pub idem : (n : ℕ) → slice_index class (slice_index class n) ≡ slice_index class n
  pub reach : (n : ℕ) → IsReached g n → IsReached g (slice_index class n)
  pub sound : IsSound g class (MergedNodes g x y)

-- from becomes to
abbrev pub relabel : ℕ → ℕ → ℕ → ℕ
relabel from to n = cond (nat_eq n from) to n

-- new is the graph of the classes for the edges before the row n and letter a
pub record IsFoldedUpTo (k : ℕ) (old : Graph) (class : List ℕ) (new : Graph)
    (n a : ℕ) : Type 0 where
  pub graph : IsGraph k new
  pub nodes : length new ≡ length old
  pub edge : (p b m : ℕ) → IsBefore p b n a → target old p b ≡ Some m
      → target new (slice_index class p) b ≡ Some (slice_index class m)
  pub back : (c b t : ℕ) → target new c b ≡ Some t
      → (p m : ℕ) × (slice_index class p ≡ c) × (target old p b ≡ Some m)
      × (slice_index class m ≡ t)
