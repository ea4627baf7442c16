-- Words that are turned, and walks along edges that are the only ones of their letter into their
-- end.
use Rattle.std.specs.Prelude.{◌≡◌, ℕ, ◌<◌, ◌≤◌, [], ◌∷◌, ◌++◌, Some, length, take, drop}
use Rattle.theory.specs.Word.{Word}
use Rattle.theory.specs.Graph.{Graph, target}

-- so many letters go from the front to the end
abbrev pub turned : ℕ → Word → Word
turned count u = drop count u ++ take count u

-- the word stays as it is then; a count of none is the empty word's
pub record IsPeriod (count : ℕ) (u : Word) : Type 0 where
  pub within : count ≤ length u
  pub some : 0 < length u → 0 < count
  pub stays : turned count u ≡ u

-- the edge of the letter from the node leads there, and no other edge of the letter does
abbrev pub IsLoneEdge : Graph → ℕ → ℕ → ℕ → Type 0
IsLoneEdge g node letter next = (target g node letter ≡ Some next)
    × ((source : ℕ) → target g source letter ≡ Some next → source ≡ node)

-- the word leads from the node to the end by such edges
abbrev pub IsLoneWalk : Graph → ℕ → Word → ℕ → Type 0
IsLoneWalk g node [] end = node ≡ end
IsLoneWalk g node (a ∷ u) end = (next : ℕ) × IsLoneEdge g node a next × IsLoneWalk g next u end
