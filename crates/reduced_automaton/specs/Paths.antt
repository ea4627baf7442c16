-- Words that lead from a node of a graph to an end, and the next of them.
use Rattle.std.specs.Prelude.{◌≡◌, ℕ, ◌<◌, ◌≤◌, Bool, true, List, ◌∷◌, ◌++◌, length, map, take, slice_index, Some, None}
use Rattle.theory.specs.Word.{Word, IsOver}
use Rattle.theory.specs.ShortLex.{◌≺◌}
use Rattle.theory.specs.Graph.{Graph, IsGraph, path, target}
use Rattle.reduced_automaton.specs.declared.readers.Rise.{Rise}

-- paths by words over so many letters, along the edges of a graph, to nodes that are ends
pub record Paths : Type 0 where
  pub letters : ℕ
  pub graph : Graph
  pub is_end : ℕ → Bool

-- all paths of the graph: each node is an end
abbrev pub all_paths : ℕ → Graph → Paths
all_paths k g = record { letters = k; graph = g; is_end = λ node. true }

-- the graph without the edges of further letters
abbrev pub narrowed : ℕ → Graph → Graph
narrowed k g = map (λ row. take k row) g

-- the graph has as many edges at each node as there are letters
abbrev pub AreIn : Paths → Type 0
AreIn p = IsGraph p.letters p.graph

-- the word leads from the node to an end
pub record HasPath (p : Paths) (node : ℕ) (u : Word) : Type 0 where
  pub over : IsOver p.letters u
  pub end : ℕ
  pub is : path p.graph node u ≡ Some end
  pub ends : p.is_end end ≡ true

-- a word of this length leads from the node to an end
pub record GoesOn (p : Paths) (node n : ℕ) : Type 0 where
  pub word : Word
  pub long : length word ≡ n
  pub has : HasPath p node word

-- a word of at least this length does
pub record GoesFar (p : Paths) (node n : ℕ) : Type 0 where
  pub word : Word
  pub long : n ≤ length word
  pub has : HasPath p node word

-- u is the least word of n letters that leads from the node to an end
pub record IsLeastPath (p : Paths) (node n : ℕ) (u : Word) : Type 0 where
  pub has : HasPath p node u
  pub long : length u ≡ n
  pub least : (v : Word) → HasPath p node v → length v ≡ n → v ≺ u → ⊥

-- no word as long as u and greater does
abbrev pub IsLastOfLength : Paths → ℕ → Word → Type 0
IsLastOfLength p node u = (v : Word) → HasPath p node v → length v ≡ length u → u ≺ v → ⊥

-- x is the least word as long as u, and greater, that does
pub record IsNextOfLength (p : Paths) (node : ℕ) (u x : Word) : Type 0 where
  pub has : HasPath p node x
  pub long : length x ≡ length u
  pub after : u ≺ x
  pub least : (v : Word) → HasPath p node v → length v ≡ length u → u ≺ v → v ≺ x → ⊥

-- a is the least letter, of those that are not below the first, that leads to where n letters
-- lead on to an end
pub record IsLeastEdge (p : Paths) (node n first a next : ℕ) : Type 0 where
  pub from : first ≤ a
  pub is : target p.graph node a ≡ Some next
  pub goes : GoesOn p next n
  pub least : (b m : ℕ) → first ≤ b → b < a → target p.graph node b ≡ Some m → GoesOn p m n → ⊥

-- no such letter
abbrev pub IsWithoutEdge : Paths → ℕ → ℕ → ℕ → Type 0
IsWithoutEdge p node n first = (b m : ℕ) → first ≤ b → target p.graph node b ≡ Some m
    → GoesOn p m n → ⊥

-- the nodes to which the proper prefixes of u lead from the root, as far as there are edges
pub record AreNodesAlong (g : Graph) (root : ℕ) (u : Word) (nodes : List ℕ) : Type 0 where
  pub few : length nodes ≤ length u
  pub at : (place : ℕ) → place < length nodes
      → path g root (take place u) ≡ Some (slice_index nodes place)
  pub end : length nodes < length u → path g root (take (length nodes) u) ≡ None

-- the letters of u before the place, the letter, and then the least word of so many letters from
-- the node make the next word that is as long as u
pub record IsRise (p : Paths) (root : ℕ) (u : Word) (rise : Rise) : Type 0 where
  pub within : rise.place ≤ length u
  pub short : rise.count ≤ length u
  pub goes : GoesOn p rise.node rise.count
  pub next : (v : Word) → IsLeastPath p rise.node rise.count v
      → IsNextOfLength p root u (take rise.place u ++ rise.letter ∷ v)
