-- What is read across an edge.
use Rattle.std.specs.Prelude.{◌≡◌, ◌≢◌, ℕ, ◌+◌, ◌<◌, List, [], ◌∷◌, ◌++◌, ◌⊎◌, Some, None, length, slice_get}
use Rattle.theory.specs.Word.{Word}
use Rattle.theory.specs.Congruence.{EitherWay}
use Rattle.theory.specs.Graph.{Graph, target, path}
use Rattle.coincidence.specs.Closing.{IsRead}
use Rattle.coincidence.specs.DueSpec.{IsDueFrom}
use Rattle.coincidence.specs.Pending.{Crosses}
use Rattle.coincidence.specs.declared.due.Due.{Due}
use Rattle.coincidence.specs.declared.due.Due.TheVariants.{Nothing, Edge, Join}

-- nothing is asked for, either way
abbrev pub IsQuietBoth : Graph → ℕ → Word → Word → Type 0
IsQuietBoth g node first second = IsDueFrom g node first second Nothing
    × IsDueFrom g node second first Nothing

-- it is asked for, one way or the other
abbrev pub IsAsked : Graph → ℕ → Word → Word → Due → Type 0
IsAsked g node first second due = IsDueFrom g node first second due
    ⊎ IsDueFrom g node second first due

-- what a pair gives, read both ways
abbrev pub IsDueBoth : Graph → ℕ → Word → Word → Due → Type 0
IsDueBoth g node first second Nothing = IsQuietBoth g node first second
IsDueBoth g node first second (Edge j a m) = IsAsked g node first second (Edge j a m)
IsDueBoth g node first second (Join j a t m) = IsAsked g node first second (Join j a t m)

-- it is asked for at a node from which the word leads to this one
abbrev pub IsAskedBehind : Graph → ℕ → Word → Word → Word → Due → Type 0
IsAskedBehind g node front first second due = (n : ℕ) × (path g n front ≡ Some node)
    × IsAsked g n first second due

-- what a pair gives at all nodes from which the word leads to this one
abbrev pub IsDueBehind : Graph → ℕ → Word → Word → Word → Due → Type 0
IsDueBehind g node front first second Nothing = (n : ℕ) → path g n front ≡ Some node
    → IsQuietBoth g n first second
IsDueBehind g node front first second (Edge j a m) = IsAskedBehind g node front first second
    (Edge j a m)
IsDueBehind g node front first second (Join j a t m) = IsAskedBehind g node front first second
    (Join j a t m)

-- it is asked for at a node from which some word leads to this one
abbrev pub IsAskedBefore : Graph → ℕ → Word → Word → Due → Type 0
IsAskedBefore g node first second due = (front : Word) × IsAskedBehind g node front first second due

-- a read of the side that is at the node at the place stops behind one letter, with two more to
-- come
pub record IsCut (g : Graph) (node : ℕ) (side : Word) (place : ℕ) : Type 0 where
  pub letter : ℕ
  pub next : ℕ
  pub here : slice_get side place ≡ Some letter
  pub behind : slice_get side (place + 1) ≡ Some next
  pub more : place + 2 < length side
  pub stops : path g node (letter ∷ next ∷ []) ≡ None

-- what a pair gives where a side crosses the edge
abbrev pub IsDueAlong : Graph → ℕ → ℕ → Word → Word → Word → Due → Type 0
IsDueAlong g node letter side first second Nothing = (n : ℕ) → Crosses g n side node letter
    → IsQuietBoth g n first second
IsDueAlong g node letter side first second (Edge j a m) = IsAskedBefore g node first second
    (Edge j a m)
IsDueAlong g node letter side first second (Join j a t m) = IsAskedBefore g node first second
    (Join j a t m)

-- a pair is read at a node from which some word leads to this one
abbrev pub IsReadBefore : Graph → List (Word × Word) → ℕ → ℕ → ℕ → ℕ → Type 0
IsReadBefore g pairs node j a m = (n : ℕ) × (front : Word) × (path g n front ≡ Some node)
    × IsRead pairs g n j a m

-- what a list of pairs gives where a side crosses the edge
abbrev pub IsDueThrough : Graph → List (Word × Word) → ℕ → ℕ → Due → Type 0
IsDueThrough g pairs node letter Nothing = (n : ℕ) (r s : Word) (a m j : ℕ)
    → EitherWay pairs r (s ++ a ∷ []) → path g n r ≡ Some m → path g n s ≡ Some j
    → Crosses g n r node letter ⊎ Crosses g n s node letter → target g j a ≡ Some m
IsDueThrough g pairs node letter (Edge j a m) = IsReadBefore g pairs node j a m
    × (target g j a ≡ None)
IsDueThrough g pairs node letter (Join j a t m) = IsReadBefore g pairs node j a m
    × (target g j a ≡ Some t) × (t ≢ m)
