-- Classes of numbers by their names.
use Rattle.std.specs.Prelude.{◌≡◌, ℕ, ◌<◌, List, length, slice_index, slice_index_or, Option, Some, None}
use Rattle.theory.specs.Green.{AreClasses, class_at}

abbrev pub HaveOneName : List ℕ → ℕ → ℕ → Type 0
HaveOneName names i j = slice_index names i ≡ slice_index names j

-- names are less than how many numbers there are
abbrev pub AreSmall : List ℕ → Type 0
AreSmall names = (i : ℕ) → i < length names → slice_index names i < length names

abbrev pub place_at : List (Option ℕ) → ℕ → Option ℕ
place_at places name = slice_index_or places name None

-- the classes of the numbers below m, and the place of that of each name, where it has one
pub record AreGrouped (names : List ℕ) (m : ℕ) (places : List (Option ℕ))
    (classes : List (List ℕ)) : Type 0 where
  pub count : length places ≡ length names
  pub classes_are : AreClasses m (HaveOneName names) classes
  pub placed : (name p : ℕ) → place_at places name ≡ Some p
      → (p < length classes)
      × (slice_index names (slice_index (class_at classes p) 0) ≡ name)
  pub seen : (i : ℕ) → i < m → (p : ℕ) × (place_at places (slice_index names i) ≡ Some p)

-- the numbers below m are grouped into so many classes, which are held
pub record AreCollected (names : List ℕ) (m : ℕ) (places : List (Option ℕ)) (count : ℕ)
    (Holds : List (List ℕ) → Type 0) : Type 0 where
  pub classes : List (List ℕ)
  pub grouped : AreGrouped names m places classes
  pub counted : length classes ≡ count
  pub held : Holds classes
