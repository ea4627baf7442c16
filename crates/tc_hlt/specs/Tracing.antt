-- Tables that grow by words that are traced in them.
use Rattle.std.specs.Prelude.{◌≡◌, ◌↔◌, ◌⊎◌, ℕ, false, List, [], ◌∷◌, ◌++◌, Some}
use Rattle.theory.specs.Word.{Word, IsPrefix}
use Rattle.theory.specs.Congruence.{Congruence, EitherWay}
use Rattle.theory.specs.Graph.{Graph, path, SameEnd}
use Rattle.theory.specs.Hlt.{FactsFrom, Drawn}
use Rattle.coincidence.specs.Live.{IsOn}
use Rattle.coincidence.specs.Table.{CosetTable}

-- what follows from the rows of the words U, and what lookaheads have drawn after those of L
abbrev pub FactsAfter : Congruence → List Word → List Word → Word → Word → Type 0
FactsAfter c L U = FactsFrom c (Drawn c L) U

-- the paths relate nothing but such facts
abbrev pub IsWithin : Congruence → List Word → List Word → Graph → Type 0
IsWithin c L U g = (u v : Word) → SameEnd g u v → FactsAfter c L U u v

-- nothing is drawn
abbrev pub NoDrawing : Word → Word → Word → Type 0
NoDrawing x u v = ⊥

-- new is old with edges to new nodes and edges between old ones. For each word x that leads to the
-- node the words D x have paths, and no fact is invented where these are defined and the pairs of
-- words E x are facts
pub record IsGrown (D : Word → Word → Type 0) (E : Word → Word → Word → Type 0)
    (old new : CosetTable) (node : ℕ) : Type 0 where
  pub congruence : new.congruence ≡ old.congruence
  pub paths : (n m : ℕ) (u : Word) → path old.graph n u ≡ Some m → path new.graph n u ≡ Some m
  pub marks : (n : ℕ) → IsOn new.marked n ↔ IsOn old.marked n
  pub failed : new.failed ≡ false
  pub there : (x v : Word) → path old.graph 0 x ≡ Some node → D x v → SameEnd new.graph v v
  pub within : (L U : List Word) (x : Word) → path old.graph 0 x ≡ Some node
      → ((v : Word) → D x v → FactsAfter old.congruence L U v v)
      → ((u v : Word) → E x u v → FactsAfter old.congruence L U u v)
      → IsWithin old.congruence L U old.graph → IsWithin old.congruence L U new.graph

-- v is x and the letter
abbrev pub IsNext : ℕ → Word → Word → Type 0
IsNext a x v = v ≡ x ++ a ∷ []

-- v is a prefix of x and the side
abbrev pub IsAlong : Word → Word → Word → Type 0
IsAlong side x v = IsPrefix v (x ++ side)

-- v is a prefix of x and one of the two sides
abbrev pub IsAlongBoth : Word → Word → Word → Word → Type 0
IsAlongBoth r s x v = IsAlong r x v ⊎ IsAlong s x v

-- u and v are x and the sides, one way or the other
abbrev pub AreSides : Word → Word → Word → Word → Word → Type 0
AreSides r s x u v = ((u ≡ x ++ r) × (v ≡ x ++ s)) ⊎ ((u ≡ x ++ s) × (v ≡ x ++ r))

-- u and v are x and the sides of a pair in the list
abbrev pub AreSidesAny : List (Word × Word) → Word → Word → Word → Type 0
AreSidesAny pairs x u v = (r s : Word) × EitherWay pairs r s × (u ≡ x ++ r) × (v ≡ x ++ s)
