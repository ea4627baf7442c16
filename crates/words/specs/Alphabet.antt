-- Alphabets, as bytes: letters, and the marker (libsemigroups: Presentation).
use Rattle.std.specs.Prelude.{ℕ, ◌<◌, ◌≤◌, Bool, true, IsTrue, ◌&&◌, ◌||◌, nat_le, ◌==◌, eqb, List, [], ◌∷◌, ◌++◌, length, All, position, Contains, if◌then◌else◌, Option, Some, None, ◌≡◌, ◌⊎◌}
use Rattle.std.specs.List.{list_any, IsDistinct}
use Rattle.std.specs.Option.{option_or}
use Rattle.words.specs.declared.fault.AlphabetFault.{AlphabetFault}
use Rattle.words.specs.declared.fault.AlphabetFault.TheVariants.{Empty, NotALetter, Repeated, NoMemory}

-- a letter: one of the bytes `a` to `z`, and where both cases are letters one of `A` to `Z` too
abbrev pub IsLetterByte : Bool → ℕ → Type 0
IsLetterByte wide b = ((97 ≤ b) × (b ≤ 122)) ⊎ (IsTrue wide × (65 ≤ b) × (b ≤ 90))

-- the byte `#` of the marker, a letter that stands in no script
abbrev pub marker : ℕ
marker = 35

-- a letter, or the marker
abbrev pub IsSymbol : ℕ → Type 0
IsSymbol b = IsLetterByte true b ⊎ (b ≡ marker)

-- the bytes are of this kind, and no two alike
pub record IsSound (IsByte : ℕ → Type 0) (bytes : List ℕ) : Type 0 where
  pub distinct : IsDistinct eqb bytes
  pub all : All IsByte bytes

-- the bytes make an alphabet of this kind of bytes: there are some, and no two alike
pub record IsAlphabetOf (IsByte : ℕ → Type 0) (bytes : List ℕ) : Type 0 where
  pub filled : 0 < length bytes
  pub sound : IsSound IsByte bytes

-- the bytes make an alphabet: there are some, letters or the marker, and no two alike
abbrev pub IsAlphabet : List ℕ → Type 0
IsAlphabet = IsAlphabetOf IsSymbol

abbrev pub is_lowercase : ℕ → Bool
is_lowercase b = nat_le 97 b && nat_le b 122

abbrev pub is_uppercase : ℕ → Bool
is_uppercase b = nat_le 65 b && nat_le b 90

abbrev pub is_letter : Bool → ℕ → Bool
is_letter wide b = is_lowercase b || (wide && is_uppercase b)

-- what is wrong with a byte behind these
abbrev pub fault_at : Bool → List ℕ → ℕ → Option AlphabetFault
fault_at wide before byte =
    if is_letter wide byte
    then (if list_any (λ y. y == byte) before then Some (Repeated (length before)) else None)
    else Some (NotALetter (length before))

-- the first fault from the left among the bytes that stand behind others
abbrev pub first_fault : Bool → List ℕ → List ℕ → Option AlphabetFault
first_fault wide before [] = None
first_fault wide before (b ∷ bs) =
    option_or (fault_at wide before b) (first_fault wide (before ++ b ∷ []) bs)

abbrev pub alphabet_fault : Bool → List ℕ → Option AlphabetFault
alphabet_fault wide [] = Some Empty
alphabet_fault wide (b ∷ bs) = first_fault wide [] (b ∷ bs)

-- why bytes are refused: for their first fault, or where they have none for want of memory
abbrev pub IsAlphabetFault : Option AlphabetFault → AlphabetFault → Type 0
IsAlphabetFault outcome NoMemory = outcome ≡ None
IsAlphabetFault outcome fault = outcome ≡ Some fault

-- the place of a byte in an alphabet
abbrev pub place_of : List ℕ → ℕ → Option ℕ
place_of alphabet byte = position (λ y. y == byte) alphabet

-- something is wrong with the byte at this place, and nothing with those before it
pub record IsFirstWrong (wide : Bool) (text : List ℕ) (place : ℕ)
    (Wrong : List ℕ → ℕ → Type 0) : Type 0 where
  pub before : List ℕ
  pub byte : ℕ
  pub after : List ℕ
  pub is : text ≡ before ++ byte ∷ after
  pub at : length before ≡ place
  pub sound : IsSound (IsLetterByte wide) before
  pub wrong : Wrong before byte

-- what each fault means: no byte at all, or the first byte that is no letter or stands among those
-- before it
abbrev pub IsFirstFault : Bool → List ℕ → AlphabetFault → Type 0
IsFirstFault wide text Empty = text ≡ []
IsFirstFault wide text (NotALetter place) =
    IsFirstWrong wide text place (λ before b. ¬ IsLetterByte wide b)
IsFirstFault wide text (Repeated place) = IsFirstWrong wide text place Contains
IsFirstFault wide text NoMemory = ⊥
