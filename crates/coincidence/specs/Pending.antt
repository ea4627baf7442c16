-- New nodes and edges, and what is closed apart from them.
use Rattle.std.specs.Prelude.{◌≡◌, ℕ, List, [], ◌∷◌, ◌++◌, ◌⊎◌, Bool, Some}
use Rattle.theory.specs.Word.{Word}
use Rattle.theory.specs.Congruence.{EitherWay}
use Rattle.theory.specs.Graph.{Graph, target, path}
use Rattle.coincidence.specs.Live.{IsOn}
use Rattle.coincidence.specs.declared.pending.Pending.{Pending}
use Rattle.coincidence.specs.declared.pending.Pending.TheVariants.{NewNode, NewEdge}

-- x is one of the list
abbrev pub IsAmong : {X : Type 0} → X → List X → Type 0
IsAmong x [] = ⊥
IsAmong x (y ∷ ys) = (x ≡ y) ⊎ IsAmong x ys

-- the word, read from the node, crosses no new edge
abbrev pub IsSettled : Graph → List Pending → ℕ → Word → Type 0
IsSettled g pending node [] = Unit {0}
IsSettled g pending node (a ∷ u) = (IsAmong (NewEdge node a) pending → ⊥)
    × ((next : ℕ) → target g node a ≡ Some next → IsSettled g pending next u)

-- at each live node that is not new, whatever is read there without crossing a new edge is closed
abbrev pub IsClosedBut : List (Word × Word) → Graph → List Bool → List Pending → Type 0
IsClosedBut pairs g live pending = (node : ℕ) (r s : Word) (a m j : ℕ)
    → IsOn live node → (IsAmong (NewNode node) pending → ⊥)
    → EitherWay pairs r (s ++ a ∷ []) → path g node r ≡ Some m → path g node s ≡ Some j
    → IsSettled g pending node r → IsSettled g pending node s
    → target g j a ≡ Some m

-- the word, read from the node, crosses the edge of the letter a from j
pub record Crosses (g : Graph) (node : ℕ) (u : Word) (j a : ℕ) : Type 0 where
  pub front : Word
  pub back : Word
  pub word : u ≡ front ++ a ∷ back
  pub leads : path g node front ≡ Some j

-- whatever is read at a live node and crosses the edge is closed
abbrev pub IsClosedThrough : List (Word × Word) → Graph → List Bool → ℕ → ℕ → Type 0
IsClosedThrough pairs g live x b = (node : ℕ) (r s : Word) (a m j : ℕ)
    → IsOn live node → EitherWay pairs r (s ++ a ∷ []) → path g node r ≡ Some m
    → path g node s ≡ Some j
    → Crosses g node r x b ⊎ Crosses g node s x b
    → target g j a ≡ Some m

-- from old to new, each edge and node is an old one or pending, and old edges between live nodes
-- stay
pub record IsRenewed (old new : Graph) (was is : List Bool)
    (before after : List Pending) : Type 0 where
  pub edges : (n a t : ℕ) → target new n a ≡ Some t
      → IsAmong (NewEdge n a) after ⊎ (target old n a ≡ Some t)
  pub nodes : (n : ℕ) → IsOn is n → IsAmong (NewNode n) after ⊎ IsOn was n
  pub pending : (p : Pending) → IsAmong p before → IsAmong p after
  pub kept : (j a m : ℕ) → IsOn is j → IsOn is m → target old j a ≡ Some m → target new j a ≡ Some m
