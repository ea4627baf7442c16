-- The entries of a generator, by its fields.
use Rattle.std.specs.Prelude.{ℕ, Bool, true, false, not, ◌&&◌, ◌==◌, nat_lt, List, [], ◌∷◌, if◌then◌else◌, Option, Some, None, option_and_then}
use Rattle.std.specs.Option.{option_eq}
use Rattle.std.specs.List.{list_any}
use Rattle.elements.specs.declared.field.Field.{Field}
use Rattle.elements.specs.declared.field.Field.TheVariants.{Number, Dash, Bad}

-- a number below n
abbrev pub below : ℕ → Field → Option ℕ
below n (Number y) = if nat_lt y n then Some y else None
below n Dash = None
below n Bad = None

-- a number below n, or none where there is a dash
abbrev pub below_or_dash : ℕ → Field → Option (Option ℕ)
below_or_dash n (Number y) = if nat_lt y n then Some (Some y) else None
below_or_dash n Dash = Some None
below_or_dash n Bad = None

-- 0 or 1
abbrev pub bit : Field → Option Bool
bit (Number y) = if y == 0 then Some false else if y == 1 then Some true else None
bit Dash = None
bit Bad = None

-- the entries of all fields, if each has one
abbrev pub all_of : {A : Type 0} → (Field → Option A) → List Field → Option (List A)
all_of entry [] = Some []
all_of entry (f ∷ fs) = option_and_then
    (λ x. option_and_then (λ xs. Some (x ∷ xs)) (all_of entry fs)) (entry f)

-- no image twice
abbrev pub is_injective : List (Option ℕ) → Bool
is_injective [] = true
is_injective (None ∷ xs) = is_injective xs
is_injective (Some y ∷ xs) = not (list_any (option_eq ◌==◌ (Some y)) xs) && is_injective xs
