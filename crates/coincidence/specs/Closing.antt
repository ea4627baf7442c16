-- One step of closing.
use Rattle.std.specs.Prelude.{◌≡◌, ℕ, List, [], ◌∷◌, ◌++◌, ◌⊎◌, Option, Some, None}
use Rattle.theory.specs.Word.{Word}
use Rattle.theory.specs.Congruence.{Congruence, EitherWay}
use Rattle.theory.specs.Facts.{Follows}
use Rattle.theory.specs.Graph.{Graph, target, path, SameEnd}

-- new is old with one more edge
pub record IsEdged (old new : Graph) (j a m : ℕ) : Type 0 where
  pub edge : target new j a ≡ Some m
  pub kept : (n b t : ℕ) → target old n b ≡ Some t → target new n b ≡ Some t
  pub back : (n b t : ℕ) → target new n b ≡ Some t
      → (target old n b ≡ Some t) ⊎ ((n ≡ j) × (b ≡ a) × (t ≡ m))

-- the first side of a pair leads from the node to m, and all but the last letter a of the second to
-- j
pub record IsRead (pairs : List (Word × Word)) (g : Graph) (node j a m : ℕ) : Type 0 where
  pub r : Word
  pub s : Word
  pub sides : EitherWay pairs r (s ++ a ∷ [])
  pub first : path g node r ≡ Some m
  pub second : path g node s ≡ Some j

-- relations are read at every node, or at one alone
abbrev pub IsReadAt : Option ℕ → ℕ → Type 0
IsReadAt None node = Unit {0}
IsReadAt (Some at) node = node ≡ at

-- the words at which relations are read then
abbrev pub LeadsThere : Graph → Option ℕ → Word → Type 0
LeadsThere g None w = Unit {0}
LeadsThere g (Some at) w = path g 0 w ≡ Some at

-- what follows when relations are read there, and the pairs
abbrev pub ClosedThere : Congruence → Graph → Option ℕ → Word → Word → Type 0
ClosedThere c g at = Follows c.presentation.relations c.pairs (SameEnd g) (LeadsThere g at)

-- a relation is read at such a node that is reached, or a pair at the root
pub data IsDue (c : Congruence) (g : Graph) (at : Option ℕ) (j a m : ℕ) : Type 0 where
  by_relation : (node : ℕ) (w : Word) → IsReadAt at node → path g 0 w ≡ Some node
      → IsRead c.presentation.relations g node j a m → IsDue c g at j a m
  by_pair : IsRead c.pairs g 0 j a m → IsDue c g at j a m
