-- Pairs by the letters with which their sides begin.
use Rattle.std.specs.Prelude.{◌≡◌, ℕ, ◌+◌, ◌<◌, ◌⊎◌, List, [], ◌∷◌, length, slice_index_or, Option, Some, None}
use Rattle.theory.specs.Word.{Word}
use Rattle.theory.specs.Graph.{Graph, target}
use Rattle.coincidence.specs.DueSpec.{IsDueAt}
use Rattle.coincidence.specs.Pending.{IsAmong}
use Rattle.coincidence.specs.Reading.{IsQuietBoth}
use Rattle.coincidence.specs.Places.{HasBit, Places}
use Rattle.coincidence.specs.Uses.{IsDueInList, list_at}
use Rattle.coincidence.specs.declared.due.Due.{Due}
use Rattle.coincidence.specs.declared.due.Due.TheVariants.{Nothing, Edge, Join}

-- the first letter of a side, if it has more
abbrev pub start_in : Word → Option ℕ
start_in [] = None
start_in (x ∷ []) = None
start_in (x ∷ y ∷ side) = Some x

-- the number of the list of a letter with which one side begins, or else the other
abbrev pub list_for : Option ℕ → Option ℕ → ℕ
list_for (Some x) other = x + 1
list_for None (Some x) = x + 1
list_for None None = 0

-- the number of the list of a pair
abbrev pub start_of : Word × Word → ℕ
start_of pair = list_for (start_in pair.0) (start_in pair.1)

-- the lists are of numbers of pairs, and each pair stands in its own
pub record AreStarts (pairs : List (Word × Word)) (lists : List Places) : Type 0 where
  pub within : (a i p : ℕ) → IsAmong (i, p) (list_at lists a) → i < length pairs
  pub all : (i : ℕ) (d : Word × Word) → i < length pairs
      → IsAmong (i, 0) (list_at lists (start_of (slice_index_or pairs i d)))

-- the letter begins a side of the pair, which has more
abbrev pub Begins : ℕ → Word × Word → Type 0
Begins x pair = (start_in pair.0 ≡ Some x) ⊎ (start_in pair.1 ≡ Some x)

-- each pair has its bit, and a letter's number only those of pairs that it begins
pub record AreFirstLetters (pairs : List (Word × Word)) (mask : ℕ) (letters : List ℕ) : Type 0 where
  pub every : (i : ℕ) → i < length pairs → HasBit mask i
  pub only : (x i : ℕ) (d : Word × Word) → i < length pairs
      → HasBit (slice_index_or letters x 0) i → Begins x (slice_index_or pairs i d)

-- a letter has its bit by which no edge leads on from the node
abbrev pub IsShutAt : Graph → ℕ → List ℕ → ℕ → Type 0
IsShutAt g node letters i = (x : ℕ) × HasBit (slice_index_or letters x 0) i
    × (target g node x ≡ None)

-- what the pairs of a mask ask for there
abbrev pub IsDueInMask : Graph → List (Word × Word) → ℕ → ℕ → Due → Type 0
IsDueInMask g pairs node mask Nothing = (i : ℕ) (d : Word × Word) → HasBit mask i
    → i < length pairs
    → IsQuietBoth g node (slice_index_or pairs i d).0 (slice_index_or pairs i d).1
IsDueInMask g pairs node mask (Edge j a m) = IsDueAt g node pairs (Edge j a m)
IsDueInMask g pairs node mask (Join j a t m) = IsDueAt g node pairs (Join j a t m)

-- so for the list of a letter, by which an edge leads from the node or none does
abbrev pub IsDueByLetter : Graph → List (Word × Word) → ℕ → List Places → ℕ → Due → Type 0
IsDueByLetter g pairs node lists x Nothing = (target g node x ≡ None)
    ⊎ IsDueInList g pairs node (list_at lists (x + 1)) Nothing
IsDueByLetter g pairs node lists x (Edge j a m) = IsDueAt g node pairs (Edge j a m)
IsDueByLetter g pairs node lists x (Join j a t m) = IsDueAt g node pairs (Join j a t m)
