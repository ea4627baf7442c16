-- Tables of two-sided congruences (Sims 1994, ch. 5; Howie 1995, ch. 1; libsemigroups: Sims2).
use Rattle.std.specs.Prelude.{◌≡◌, ℕ, ◌<◌, [], ◌∷◌, ◌++◌, length, Some}
use Rattle.theory.specs.Word.{Word, IsOver}
use Rattle.theory.specs.Congruence.{Presentation}
use Rattle.theory.specs.Graph.{Graph, target, path, SameEnd}
use Rattle.theory.specs.LowIndex.{Rows, graph_of, IsLowIndex}

-- both words have a path from the node, to one node
abbrev pub SameEndFrom : Graph → ℕ → Word → Word → Type 0
SameEndFrom g node u v = (m : ℕ) × (path g node u ≡ Some m) × (path g node v ≡ Some m)

-- any two words that lead from the root to one node lead from every node to one node
abbrev pub IsTwoSidedTable : Graph → Type 0
IsTwoSidedTable g = (u v : Word) (node : ℕ) → SameEnd g u v → node < length g
    → SameEndFrom g node u v

-- the path equality is kept under multiplication on the left
abbrev pub IsKeptInFront : ℕ → Graph → Type 0
IsKeptInFront k g = (x u v : Word) → IsOver k x → SameEnd g u v → SameEnd g (x ++ u) (x ++ v)

-- a word for each node, which leads there from the root
pub record AreNodeWords (g : Graph) (word : ℕ → Word) : Type 0 where
  pub root : word 0 ≡ []
  pub leads : (node : ℕ) → node < length g → path g 0 (word node) ≡ Some node

-- from each node to which a letter leads from the root, a node's word with a letter behind it leads
-- where the word of its target leads
abbrev pub AgreesAtLetters : ℕ → Graph → (ℕ → Word) → Type 0
AgreesAtLetters k g word = (first at node letter next : ℕ)
    → first < k → target g 0 first ≡ Some at
    → node < length g → letter < k → target g node letter ≡ Some next
    → path g at (word node ++ letter ∷ []) ≡ path g at (word next)

-- a table of low index that is two-sided
pub record IsTwoSidedLowIndex (p : Presentation) (n : ℕ) (rows : Rows) : Type 0 where
  pub low : IsLowIndex p n rows
  pub two_sided : IsTwoSidedTable (graph_of rows)
