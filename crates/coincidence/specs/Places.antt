-- Places in the sides of pairs, and the bits of the pairs.
use Rattle.std.specs.Prelude.{◌≡◌, ◌⊎◌, ℕ, ◌<◌, List}
use Rattle.std.specs.Int.{bit_at}
use Rattle.coincidence.specs.Pending.{IsAmong}

-- numbers of pairs, each with a place in its side
abbrev pub Places : Type 0
Places = List (ℕ × ℕ)

-- the list has the entry, and nothing else is new
abbrev pub IsWith : Places → Places → ℕ × ℕ → Type 0
IsWith old new entry = IsAmong entry new × ((e : ℕ × ℕ) → IsAmong e old → IsAmong e new)
    × ((e : ℕ × ℕ) → IsAmong e new → IsAmong e old ⊎ (e ≡ entry))

-- the pair is one of the first, and its bit is set
abbrev pub HasBit : ℕ → ℕ → Type 0
HasBit mask i = (i < 64) × (bit_at mask i ≡ 1)

-- so for each pair of the list
abbrev pub IsMaskOf : ℕ → Places → Type 0
IsMaskOf mask list = (i p : ℕ) → IsAmong (i, p) list → HasBit mask i
