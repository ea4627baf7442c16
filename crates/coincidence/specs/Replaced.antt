-- The nodes that lost nodes were replaced by.
use Rattle.std.specs.Prelude.{◌≡◌, ℕ, ◌<◌, ◌≤◌, ◌⊎◌, Bool, List, length, slice_index}
use Rattle.coincidence.specs.Live.{IsOn}

-- the node that stands beside n is a lesser one of its class that was live
abbrev pub IsReplaced : List Bool → List ℕ → List ℕ → ℕ → Type 0
IsReplaced was class replaced_by n = (slice_index replaced_by n < n)
    × IsOn was (slice_index replaced_by n)
    × (slice_index class (slice_index replaced_by n) ≡ slice_index class n)

-- of the nodes that were live, each is still so and names its class, or was replaced
pub record AreReplaced (was is : List Bool) (class replaced_by : List ℕ) : Type 0 where
  pub shape : length is ≡ length was
  pub room : length is ≤ length replaced_by
  pub own : (n : ℕ) → IsOn is n → slice_index class n ≡ n
  pub replaced : (n : ℕ) → IsOn was n → IsOn is n ⊎ IsReplaced was class replaced_by n

-- so for some classes, and the node was live
abbrev pub IsKnown : List Bool → List ℕ → ℕ → Type 0
IsKnown is replaced_by node = (was : List Bool) × (class : List ℕ)
    × AreReplaced was is class replaced_by × IsOn was node

-- whatever the classes are, one comes from the node to one of its class
abbrev pub StaysInClass : List Bool → List ℕ → List ℕ → ℕ → ℕ → Type 0
StaysInClass is old new node to = (was : List Bool) (class : List ℕ)
    → AreReplaced was is class old → IsOn was node
    → AreReplaced was is class new × IsOn was to × (slice_index class to ≡ slice_index class node)
