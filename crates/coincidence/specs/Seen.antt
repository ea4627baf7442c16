-- Relations that were seen to hold at nodes.
use Rattle.std.specs.Prelude.{◌≡◌, ◌⊎◌, ℕ, ◌<◌, List, length, slice_index_or}
use Rattle.theory.specs.Word.{Word}
use Rattle.theory.specs.Graph.{Graph}
use Rattle.coincidence.specs.Holding.{MeetAt}
use Rattle.coincidence.specs.Merging.{IsReached}
use Rattle.coincidence.specs.Places.{HasBit}

-- of the first relations, each was seen to hold at the node whose bit of the node's number is set
abbrev pub IsSeen : List ℕ → ℕ → ℕ → Type 0
IsSeen seen node i = HasBit (slice_index_or seen node 0) i

-- at nodes that are reached the pairs hold where they were seen to
abbrev pub HoldWhereSeen : List (Word × Word) → Graph → List ℕ → Type 0
HoldWhereSeen pairs g seen = (n i : ℕ) (p : Word × Word) → IsSeen seen n i → IsReached g n
    → MeetAt g n (slice_index_or pairs i p)

-- the words are the sides of the pair of this number, one or the other first
abbrev pub AreSidesOf : List (Word × Word) → ℕ → Word → Word → Type 0
AreSidesOf pairs i one other = (i < length pairs) × ((p : Word × Word)
    → ((one ≡ (slice_index_or pairs i p).0) × (other ≡ (slice_index_or pairs i p).1))
    ⊎ ((one ≡ (slice_index_or pairs i p).1) × (other ≡ (slice_index_or pairs i p).0)))
