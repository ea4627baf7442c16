-- Rooted word graphs, as tables of rows (Sims 1994, ch. 5; libsemigroups: WordGraph).
use Rattle.std.specs.Prelude.{◌↔◌, ◌≡◌, ℕ, ◌<◌, List, [], ◌∷◌, ◌++◌, length, Option, Some, None, slice_get, option_and_then, unwrap_or, All}
use Rattle.theory.specs.Word.{Word, IsOver}
use Rattle.theory.specs.Congruence.{Congruence, EitherWay}

-- a row for each node, an entry for each letter
abbrev pub Graph : Type 0
Graph = List (List (Option ℕ))

-- where the edge of the letter leads from the node
abbrev pub target : Graph → ℕ → ℕ → Option ℕ
target g node letter = unwrap_or (slice_get (unwrap_or (slice_get g node) []) letter) None

-- where the word leads from the node
abbrev pub path : Graph → ℕ → Word → Option ℕ
path g node [] = Some node
path g node (a ∷ u) = option_and_then (λ next. path g next u) (target g node a)

-- both words have a path from the root, to one node
abbrev pub SameEnd : Graph → Word → Word → Type 0
SameEnd g u v = (node : ℕ) × (path g 0 u ≡ Some node) × (path g 0 v ≡ Some node)

-- k entries in each row, each a node of the graph
pub record IsGraph (k : ℕ) (g : Graph) : Type 0 where
  pub rooted : 0 < length g
  pub width : All (λ row. length row ≡ k) g
  pub nodes : (node letter next : ℕ) → target g node letter ≡ Some next → next < length g

-- the paths from the root relate exactly what V does
abbrev pub PathsRelate : Graph → (Word → Word → Type 0) → Type 0
PathsRelate g V = (u v : Word) → SameEnd g u v ↔ V u v

-- each node is reached, and the paths relate exactly what V does
pub record Shows (g : Graph) (V : Word → Word → Type 0) : Type 0 where
  pub reached : (node : ℕ) → node < length g → (u : Word) × (path g 0 u ≡ Some node)
  pub paths : PathsRelate g V

-- every edge is there
abbrev pub IsComplete : ℕ → Graph → Type 0
IsComplete k g = (node letter : ℕ) → node < length g → letter < k
    → (next : ℕ) × (target g node letter ≡ Some next)

-- a complete graph each of whose nodes is reached: the table of a right congruence
pub record IsCompleteTable (k : ℕ) (g : Graph) : Type 0 where
  pub graph : IsGraph k g
  pub complete : IsComplete k g
  pub reached : (node : ℕ) → node < length g → (u : Word) × IsOver k u × (path g 0 u ≡ Some node)

-- where the first side and all but the last letter of the second have a path from the node, the
-- last edge is there, and both sides lead to one node
abbrev pub IsClosedAt : List (Word × Word) → Graph → ℕ → Type 0
IsClosedAt pairs g node = (r s : Word) (a m j : ℕ)
    → EitherWay pairs r (s ++ a ∷ []) → path g node r ≡ Some m → path g node s ≡ Some j
    → target g j a ≡ Some m

-- the words of D have a path; the relations are closed at the nodes to which words of U lead, and
-- the pairs at the root
pub record IsModel (c : Congruence) (D U : Word → Type 0) (g : Graph) : Type 0 where
  pub defined : (w : Word) → D w → (node : ℕ) × (path g 0 w ≡ Some node)
  pub closed : (u : Word) (node : ℕ) → U u → path g 0 u ≡ Some node
      → IsClosedAt c.presentation.relations g node
  pub pairs : IsClosedAt c.pairs g 0
