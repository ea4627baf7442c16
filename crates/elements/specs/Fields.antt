-- The entries of a generator, as fields.
use Rattle.std.specs.Prelude.{◌≡◌, ℕ, ◌<◌, List, slice_get, Some, None, Option, codes, decimal}
use Rattle.elements.specs.declared.field.Field.{Field}
use Rattle.elements.specs.declared.field.Field.TheVariants.{Number, Dash, Bad}

-- an image below n
abbrev pub IsImage : ℕ → Field → Type 0
IsImage n (Number y) = y < n
IsImage n Dash = ⊥
IsImage n Bad = ⊥

-- there is an entry, and it is an image below n
abbrev pub IsImageAt : ℕ → Option Field → Type 0
IsImageAt n (Some f) = IsImage n f
IsImageAt n None = ⊥

-- the first place whose field is no image
pub record IsFirstBad (n : ℕ) (fields : List Field) (place : ℕ) : Type 0 where
  pub before : (k : ℕ) → k < place → IsImageAt n (slice_get fields k)
  pub at : (f : Field) × (slice_get fields place ≡ Some f) × (IsImage n f → ⊥)

-- a number below n, or none
abbrev pub IsBelow : ℕ → Option ℕ → Type 0
IsBelow n (Some y) = y < n
IsBelow n None = Unit {0}

-- the field of a number, or of none
abbrev pub field_of : Option ℕ → Field
field_of (Some y) = Number y
field_of None = Dash

-- a number below n, or a dash
abbrev pub IsBelowOrDash : ℕ → Field → Type 0
IsBelowOrDash n (Number y) = y < n
IsBelowOrDash n Dash = Unit {0}
IsBelowOrDash n Bad = ⊥

-- the first place whose field is not good
pub record IsFirstRefused (IsGood : Field → Type 0) (fields : List Field) (place : ℕ) : Type 0 where
  pub before : (k : ℕ) (f : Field) → k < place → slice_get fields k ≡ Some f → IsGood f
  pub at : (f : Field) × (slice_get fields place ≡ Some f) × (IsGood f → ⊥)

-- the number as text, or a dash
abbrev pub decimal_or_dash : Option ℕ → List ℕ
decimal_or_dash (Some y) = decimal y
decimal_or_dash None = codes "-"
