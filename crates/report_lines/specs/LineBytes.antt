-- The bytes of lines.
use Rattle.std.specs.Prelude.{◌≡◌, ℕ, List}
use Rattle.std.specs.List.{flat_map}

-- the bytes of lines
abbrev pub bytes_of : List (List ℕ) → List ℕ
bytes_of lines = flat_map (λ line. line) lines

-- the bytes of some such lines
pub record AreBytesOf (AreSuch : List (List ℕ) → Type 0) (bytes : List ℕ) : Type 0 where
  pub lines : List (List ℕ)
  pub are_such : AreSuch lines
  pub are_bytes : bytes ≡ bytes_of lines
