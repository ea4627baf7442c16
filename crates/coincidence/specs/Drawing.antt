-- What is asked for by what is pending.
use Rattle.std.specs.Prelude.{◌≡◌, List, [], ◌∷◌, ◌++◌, Bool, Option, Some, None}
use Rattle.theory.specs.Word.{Word}
use Rattle.theory.specs.Graph.{Graph}
use Rattle.coincidence.specs.DueSpec.{IsDueAnywhere}
use Rattle.coincidence.specs.Pending.{IsClosedBut}
use Rattle.coincidence.specs.declared.due.Due.{Due}
use Rattle.coincidence.specs.declared.due.Due.TheVariants.{Nothing, Edge, Join}
use Rattle.coincidence.specs.declared.pending.Pending.{Pending}

-- the last of a list, if it has one
abbrev pub IsLast : List Pending → Option Pending → Type 0
IsLast list None = list ≡ []
IsLast list (Some last) = (front : List Pending) × (list ≡ front ++ last ∷ [])

-- what the entry gives: with nothing, it may be dropped
abbrev pub IsDueOf : List (Word × Word) → Graph → List Bool → Pending → Due → Type 0
IsDueOf pairs g live entry Nothing = (rest : List Pending)
    → IsClosedBut pairs g live (rest ++ entry ∷ []) → IsClosedBut pairs g live rest
IsDueOf pairs g live entry (Edge j a m) = IsDueAnywhere pairs g live (Edge j a m)
IsDueOf pairs g live entry (Join j a t m) = IsDueAnywhere pairs g live (Join j a t m)
