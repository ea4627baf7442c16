-- What is left to draw.
use Rattle.std.specs.Prelude.{◌≡◌, ◌≢◌, ℕ, List, [], ◌∷◌, ◌++◌, Bool, Option, Some, None}
use Rattle.theory.specs.Word.{Word}
use Rattle.theory.specs.Congruence.{Congruence}
use Rattle.theory.specs.Graph.{Graph, target, path, IsClosedAt}
use Rattle.coincidence.specs.Closing.{IsRead, IsReadAt, IsDue}
use Rattle.coincidence.specs.Live.{IsOn}
use Rattle.coincidence.specs.declared.due.Due.{Due}
use Rattle.coincidence.specs.declared.due.Due.TheVariants.{Nothing, Edge, Join}

-- r leads from the node to m, and all but the last letter a of s to j
abbrev pub ReadsTo : Graph → ℕ → Word → Word → ℕ → ℕ → ℕ → Type 0
ReadsTo g node r s j a m = (front : Word) × (s ≡ front ++ a ∷ []) × (path g node r ≡ Some m)
    × (path g node front ≡ Some j)

-- what one side after another gives
abbrev pub IsDueFrom : Graph → ℕ → Word → Word → Due → Type 0
IsDueFrom g node r s Nothing = (j a m : ℕ) → ReadsTo g node r s j a m → target g j a ≡ Some m
IsDueFrom g node r s (Edge j a m) = ReadsTo g node r s j a m × (target g j a ≡ None)
IsDueFrom g node r s (Join j a t m) = ReadsTo g node r s j a m × (target g j a ≡ Some t) × (t ≢ m)

-- what a list of pairs gives at a node
abbrev pub IsDueAt : Graph → ℕ → List (Word × Word) → Due → Type 0
IsDueAt g node pairs Nothing = IsClosedAt pairs g node
IsDueAt g node pairs (Edge j a m) = IsRead pairs g node j a m × (target g j a ≡ None)
IsDueAt g node pairs (Join j a t m) = IsRead pairs g node j a m × (target g j a ≡ Some t) × (t ≢ m)

-- what a list of pairs gives at the live nodes
abbrev pub IsDueAnywhere : List (Word × Word) → Graph → List Bool → Due → Type 0
IsDueAnywhere pairs g live Nothing = (node : ℕ) → IsOn live node → IsClosedAt pairs g node
IsDueAnywhere pairs g live (Edge j a m) = (node : ℕ) × IsOn live node × IsRead pairs g node j a m
    × (target g j a ≡ None)
IsDueAnywhere pairs g live (Join j a t m) = (node : ℕ) × IsOn live node × IsRead pairs g node j a m
    × (target g j a ≡ Some t) × (t ≢ m)

-- what is left at the live nodes, or at one of them, and at the root
abbrev pub IsDueIn : Congruence → Graph → List Bool → Option ℕ → Due → Type 0
IsDueIn c g live at Nothing = ((node : ℕ) → IsReadAt at node → IsOn live node
    → IsClosedAt c.presentation.relations g node) × IsClosedAt c.pairs g 0
IsDueIn c g live at (Edge j a m) = IsDue c g at j a m × (target g j a ≡ None)
IsDueIn c g live at (Join j a t m) = IsDue c g at j a m × (target g j a ≡ Some t) × (t ≢ m)
