-- Partial permutations, as lists of images (libsemigroups, PPerm).
use Rattle.std.specs.Prelude.{◌≡◌, ℕ, ◌<◌, List, length, map, All, Option, Some, None, slice_get, slice_index_or}
use Rattle.elements.specs.declared.field.Field.{Field}
use Rattle.elements.specs.declared.field.Field.TheVariants.{Number}
use Rattle.elements.specs.Fields.{IsBelow, field_of}

-- the image of a point, where both are defined
abbrev pub partial_image : List (Option ℕ) → Option ℕ → Option ℕ
partial_image x None = None
partial_image x (Some k) = slice_index_or x k None

-- x first and then y, undefined where either step is
abbrev pub partially_composed : List (Option ℕ) → List (Option ℕ) → List (Option ℕ)
partially_composed x y = map (partial_image y) x

-- no image twice
abbrev pub IsInjective : List (Option ℕ) → Type 0
IsInjective x = (i j y : ℕ) → slice_index_or x i None ≡ Some y → slice_index_or x j None ≡ Some y
    → i ≡ j

-- the images of the points 0 to n - 1, n the length of the list: each below n or none, and no image
-- twice
pub record ArePartialImages (x : List (Option ℕ)) : Type 0 where
  pub in_range : All (IsBelow (length x)) x
  pub injective : IsInjective x

-- the place has an image that the place i before it has
pub record RepeatsImage (fields : List Field) (i place : ℕ) : Type 0 where
  pub image : ℕ
  pub before : i < place
  pub first : slice_get fields i ≡ Some (Number image)
  pub again : slice_get fields place ≡ Some (Number image)

-- the first place with an image that an earlier place has
pub record IsFirstRepeat (fields : List Field) (place : ℕ) : Type 0 where
  pub before : (i k : ℕ) → k < place → RepeatsImage fields i k → ⊥
  pub at : (i : ℕ) × RepeatsImage fields i place

-- the first place of a list with an image that an earlier place has
abbrev pub IsFirstAgain : List (Option ℕ) → ℕ → Type 0
IsFirstAgain x place = IsFirstRepeat (map field_of x) place
