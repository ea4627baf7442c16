-- Least words that are read backwards along a graph: the classes of a left congruence (Sims 1994,
-- ch. 5; libsemigroups: Congruence).
use Rattle.std.specs.Prelude.{◌↔◌, ◌≡◌, ℕ, ◌<◌, [], ◌∷◌, ◌⊎◌, length, Some, reverse}
use Rattle.theory.specs.Word.{Word, IsOver}
use Rattle.theory.specs.ShortLex.{◌≺◌}
use Rattle.theory.specs.Congruence.{Congruence}
use Rattle.theory.specs.Chain.{Related}
use Rattle.theory.specs.Graph.{Graph, target, path, SameEnd}

-- w is the least word over k letters that, read backwards, leads from the root to the node
pub record IsLeastBackwards (k : ℕ) (g : Graph) (node : ℕ) (w : Word) : Type 0 where
  pub over : IsOver k w
  pub leads : path g 0 (reverse w) ≡ Some node
  pub least : (v : Word) → IsOver k v → path g 0 (reverse v) ≡ Some node → v ≺ w → ⊥

-- a word for each node, by which no edge leads to a node with a greater word: one letter is put in
-- front
pub record AreWordsBackwards (k : ℕ) (g : Graph) (word : ℕ → Word) : Type 0 where
  pub root : word 0 ≡ []
  pub over : (node : ℕ) → node < length g → IsOver k (word node)
  pub leads : (node : ℕ) → node < length g → path g 0 (reverse (word node)) ≡ Some node
  pub edges : (node letter next : ℕ)
      → node < length g → letter < k → target g node letter ≡ Some next
      → (word next ≺ (letter ∷ word node)) ⊎ (word next ≡ letter ∷ word node)

-- words are related exactly where, read backwards, they lead from the root to one node
abbrev pub DecidesBackwards : Graph → Congruence → Type 0
DecidesBackwards g c = (u v : Word) → IsOver c.presentation.letters u
    → Related c u v ↔ SameEnd g (reverse u) (reverse v)
