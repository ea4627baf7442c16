-- Green's relations and idempotents of a semigroup of values (Howie 1995, ch. 2; libsemigroups:
-- FroidurePin).
use Rattle.std.specs.Prelude.{◌≡◌, ◌≢◌, ℕ, ◌<◌, ◌↔◌, Bool, false, List, [], ◌∷◌, ◌⊎◌, None, IsTrue, All, Contains, map, slice_index, slice_index_or}
use Rattle.theory.specs.Word.{Word, IsElement}
use Rattle.theory.specs.Listing.{IsAscending}

module _ {V : Type 0} (product : V → V → V) (equal : V → V → Bool) (k : ℕ)
    (value_of : Word → V) where
  -- x is y, or y times an element
  abbrev pub IsRightMultiple : V → V → Type 0
  IsRightMultiple x y = IsTrue (equal x y)
      ⊎ ((w : Word) × IsElement false k w × IsTrue (equal x (product y (value_of w))))

  -- x is y, or an element times y
  abbrev pub IsLeftMultiple : V → V → Type 0
  IsLeftMultiple x y = IsTrue (equal x y)
      ⊎ ((w : Word) × IsElement false k w × IsTrue (equal x (product (value_of w) y)))

  -- x is y with an element or nothing on each side
  abbrev pub IsMultiple : V → V → Type 0
  IsMultiple x y = IsRightMultiple x y
      ⊎ ((w : Word) × IsElement false k w × IsRightMultiple x (product (value_of w) y))

  -- each is the other, or the other times an element
  abbrev pub IsGreenR : V → V → Type 0
  IsGreenR x y = IsRightMultiple x y × IsRightMultiple y x

  -- each is the other, or an element times the other
  abbrev pub IsGreenL : V → V → Type 0
  IsGreenL x y = IsLeftMultiple x y × IsLeftMultiple y x

  -- both at once
  abbrev pub IsGreenH : V → V → Type 0
  IsGreenH x y = IsGreenR x y × IsGreenL x y

  -- each is the other with an element or nothing on each side
  abbrev pub IsGreenJ : V → V → Type 0
  IsGreenJ x y = IsMultiple x y × IsMultiple y x

-- x is its own square
abbrev pub IsIdempotent : {V : Type 0} → (V → V → V) → (V → V → Bool) → V → Type 0
IsIdempotent product equal x = IsTrue (equal (product x x) x)

-- an edge of a Cayley graph leads from i to j: of the right one, the left one, or one of both
abbrev pub IsEdge : ℕ → (ℕ → ℕ → ℕ) → ℕ → ℕ → Type 0
IsEdge k next i j = (a : ℕ) × (a < k) × (next i a ≡ j)

abbrev pub IsEdgeOfEither : ℕ → (ℕ → ℕ → ℕ) → (ℕ → ℕ → ℕ) → ℕ → ℕ → Type 0
IsEdgeOfEither k right left i j = IsEdge k right i j ⊎ IsEdge k left i j

-- edges lead from i to j, one after another
pub data Reaches (Edge : ℕ → ℕ → Type 0) : ℕ → ℕ → Type 0 where
  here : {i : ℕ} → Reaches Edge i i
  further : {i j l : ℕ} → Edge i j → Reaches Edge j l → Reaches Edge i l

-- each is reached from the other: they lie in one strongly connected component
abbrev pub AreConnected : (ℕ → ℕ → Type 0) → ℕ → ℕ → Type 0
AreConnected Edge i j = Reaches Edge i j × Reaches Edge j i

-- where the letters of a word lead from i
abbrev pub follow : (ℕ → ℕ → ℕ) → ℕ → Word → ℕ
follow next i [] = i
follow next i (a ∷ u) = follow next (next i a) u

-- the class at a place of a list
abbrev pub class_at : List (List ℕ) → ℕ → List ℕ
class_at classes p = slice_index_or classes p []

-- all classes of the numbers below n, each in order, by their first members in order: each number
-- stands in a class, and numbers are related exactly where they stand in one class
pub record AreClasses (n : ℕ) (R : ℕ → ℕ → Type 0) (classes : List (List ℕ)) : Type 0 where
  pub not_empty : All (λ c. c ≢ []) classes
  pub below : All (All (λ i. i < n)) classes
  pub ascend : All (IsAscending ◌<◌ None) classes
  pub in_order : IsAscending ◌<◌ None (map (λ c. slice_index c 0) classes)
  pub every : (i : ℕ) → i < n → (p : ℕ) × Contains (class_at classes p) i
  pub related : (p q i j : ℕ) → Contains (class_at classes p) i
      → Contains (class_at classes q) j → R i j ↔ (p ≡ q)
