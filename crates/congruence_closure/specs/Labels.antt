-- Classes of numbers by parents: a number's parent is of its class and not greater, and the least
-- number of a class is its own parent (Tarjan 1975).
use Rattle.std.specs.Prelude.{◌≡◌, ℕ, ◌<◌, ◌≤◌, List, length, slice_index, ◌⊎◌}

-- no parent is greater
abbrev pub AreBelow : List ℕ → Type 0
AreBelow parents = (i : ℕ) → i < length parents → slice_index parents i ≤ i

-- label i is the least number of i's class
pub record AreLabels (label : ℕ → ℕ) (parents : List ℕ) : Type 0 where
  pub own : (i : ℕ) → label (label i) ≡ label i
  pub below : (i : ℕ) → label i ≤ i
  pub parent : (i : ℕ) → i < length parents → label (slice_index parents i) ≡ label i
  pub root : (i : ℕ) → i < length parents → slice_index parents i ≡ i → label i ≡ i

-- the labels after the classes of two numbers have become one
pub record AreMerged (before after : ℕ → ℕ) (i j : ℕ) : Type 0 where
  pub kept : (x y : ℕ) → before x ≡ before y → after x ≡ after y
  pub one : after i ≡ after j
  pub only : (x y : ℕ) → after x ≡ after y
      → (before x ≡ before y)
      ⊎ (((before x ≡ before i) × (before y ≡ before j))
      ⊎ ((before x ≡ before j) × (before y ≡ before i)))

-- the labels of parents after a merging
pub record HasMerged (before : ℕ → ℕ) (parents : List ℕ) (i j : ℕ) : Type 0 where
  pub after : ℕ → ℕ
  pub labels : AreLabels after parents
  pub merged : AreMerged before after i j
