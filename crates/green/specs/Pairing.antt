-- Names of pairs of names.
use Rattle.std.specs.Prelude.{◌≡◌, ℕ, ◌<◌, ◌↔◌, List, length, slice_index}

-- two numbers have one name exactly where both of their names agree
pub record AreNamesOfPairs (first second names : List ℕ) : Type 0 where
  pub count : length names ≡ length first
  pub within : (i : ℕ) → i < length first → slice_index names i < length first
  pub same : (i j : ℕ) → i < length first → j < length first
      → (slice_index names i ≡ slice_index names j)
      ↔ ((slice_index first i ≡ slice_index first j)
      × (slice_index second i ≡ slice_index second j))
