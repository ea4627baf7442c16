-- Graphs that stand for right congruences of low index.
use Rattle.std.specs.Prelude.{◌≡◌, ◌≢◌, ◌↔◌, ◌⊎◌, ℕ, suc, ◌<◌, ◌≤◌, Bool, true, false, List, [], length, Some, Contains}
use Rattle.theory.specs.Word.{Word, IsElement, IsOver}
use Rattle.theory.specs.Congruence.{Presentation, of_presentation}
use Rattle.theory.specs.Chain.{Related}
use Rattle.theory.specs.Class.{Among, Covers}
use Rattle.theory.specs.Lattice.{IsRightCongruence}
use Rattle.theory.specs.Graph.{Graph, target, path, IsGraph, IsComplete, SameEnd}

-- at most n classes: in a semigroup the root is no class, and no edge leads to it
abbrev pub AreAtMost : Bool → ℕ → Graph → Type 0
AreAtMost true n g = length g ≤ n
AreAtMost false n g = (length g ≤ suc n) × ((node letter : ℕ) → target g node letter ≢ Some 0)

-- each letter has an edge at each node, both sides of each relation lead from each node to one, and
-- there are at most n classes
pub record StandsFor (p : Presentation) (n : ℕ) (g : Graph) : Type 0 where
  pub graph : IsGraph p.letters g
  pub complete : IsComplete p.letters g
  pub meets : (node : ℕ) (r s : Word) → node < length g → Contains p.relations (r, s)
      → path g node r ≡ path g node s
  pub few : AreAtMost p.is_monoid n g

-- two words lead from the root of one graph to one node where they do so in the other
abbrev pub HaveSamePaths : Graph → Graph → Type 0
HaveSamePaths g h = (u v : Word) → SameEnd g u v ↔ SameEnd h u v

-- a right congruence of what is presented, of which it can be decided whether words are related,
-- with at most n classes: in each is one of these elements. In a semigroup the empty word is
-- related to itself alone
pub record HasFewClasses (p : Presentation) (n : ℕ) (R : Word → Word → Type 0)
    (elements : List Word) : Type 0 where
  pub right : IsRightCongruence p.letters R
  pub relations : (u v : Word) → IsOver p.letters u → IsOver p.letters v
      → Related (of_presentation p) u v → R u v
  pub decided : (u v : Word) → R u v ⊎ (R u v → ⊥)
  pub few : length elements ≤ n
  pub listed : (u : Word) → Contains elements u → IsElement p.is_monoid p.letters u
  pub covered : Covers (Among (IsElement p.is_monoid p.letters) R) elements
  pub alone : p.is_monoid ≡ false → (u : Word) → R [] u → u ≡ []
