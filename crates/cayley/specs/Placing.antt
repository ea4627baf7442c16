-- Classes of numbers one after another, in the order of their least numbers.
use Rattle.std.specs.Prelude.{◌≡◌, ℕ, ◌<◌, ◌≤◌, List, length, slice_index}

-- the classes are named by their least numbers
pub record AreNamed (classes : List ℕ) : Type 0 where
  pub below : (i : ℕ) → i < length classes → slice_index classes i ≤ i
  pub own : (i : ℕ) → i < length classes
      → slice_index classes (slice_index classes i) ≡ slice_index classes i

-- the least numbers of the classes, in order, and for each number the place of that of its class
pub record ArePlacedClasses (classes roots places : List ℕ) : Type 0 where
  pub count : length places ≡ length classes
  pub named : (m : ℕ) → m < length roots → (slice_index roots m < length classes)
      × (slice_index classes (slice_index roots m) ≡ slice_index roots m)
  pub ascending : (m l : ℕ) → m < l → l < length roots → slice_index roots m < slice_index roots l
  pub placed : (i : ℕ) → i < length classes → (slice_index places i < length roots)
      × (slice_index roots (slice_index places i) ≡ slice_index classes i)
