-- Names of classes that meet.
use Rattle.std.specs.Prelude.{◌≡◌, ℕ, ◌<◌, ◌≤◌, List, length, slice_index}

-- the least first name among the numbers that have this second name
pub record IsLeastThatMeets (first second : List ℕ) (name met : ℕ) : Type 0 where
  pub meets : (i : ℕ) × (i < length first) × (slice_index second i ≡ name)
      × (slice_index first i ≡ met)
  pub least : (i : ℕ) → i < length first → slice_index second i ≡ name → met ≤ slice_index first i

-- each number has the least first name that meets its second name
pub record AreJoinedNames (first second names : List ℕ) : Type 0 where
  pub count : length names ≡ length first
  pub at : (i : ℕ) → i < length first
      → IsLeastThatMeets first second (slice_index second i) (slice_index names i)
