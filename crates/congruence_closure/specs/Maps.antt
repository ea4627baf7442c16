-- Maps of numbers into themselves, and the least equivalence with given pairs that they keep
-- (congruence closure: Downey, Sethi and Tarjan 1980).
use Rattle.std.specs.Prelude.{◌≡◌, ℕ, ◌<◌, ◌≤◌, ◌↔◌, ◌⊎◌, List, length, slice_index, Contains}
use Rattle.theory.specs.Generated.{Generated}
use Rattle.theory.specs.declared.Kind.TheVariants.{Right}

-- so many maps of the numbers below a bound: `image i a` is the image of i under the map a
pub record MapList : Type 0 where
  pub bound : ℕ
  pub count : ℕ
  pub image : ℕ → ℕ → ℕ

-- images are below the bound
abbrev pub AreInto : MapList → Type 0
AreInto m = (i a : ℕ) → i < m.bound → a < m.count → m.image i a < m.bound

-- both numbers are below n
abbrev pub AreIn : ℕ → ℕ × ℕ → Type 0
AreIn n p = (p.0 < n) × (p.1 < n)

-- a number below n with itself, or a pair
abbrev pub GivenPair : ℕ → List (ℕ × ℕ) → ℕ → ℕ → Type 0
GivenPair n pairs i j = ((i < n) × (i ≡ j)) ⊎ Contains pairs (i, j)

-- the least equivalence on the numbers that has these and is kept by the maps
abbrev pub KeptBy : MapList → List (ℕ × ℕ) → ℕ → ℕ → Type 0
KeptBy m pairs = Generated Right m.count m.image m.image (GivenPair m.bound pairs)

-- for each number the least one that is related to it
pub record AreLeastClasses (m : MapList) (pairs : List (ℕ × ℕ)) (classes : List ℕ) : Type 0 where
  pub count : length classes ≡ m.bound
  pub related : (i j : ℕ) → i < m.bound → j < m.bound
      → KeptBy m pairs i j ↔ (slice_index classes i ≡ slice_index classes j)
  pub own : (i : ℕ) → i < m.bound → KeptBy m pairs i (slice_index classes i)
  pub least : (i j : ℕ) → i < m.bound → KeptBy m pairs i j → slice_index classes i ≤ j
