-- The bytes that sources give and sinks take, and their counts.
use Rattle.std.specs.Prelude.{◌≡◌, ℕ, ◌+◌, ◌-◌, ◌^◌, ◌<◌, ◌≤◌, min, List, [], ◌++◌, length, take, Option, Some, None, Result, Ok, Err}

-- one more, but never past the last u64
abbrev pub next : ℕ → ℕ
next n = min (n + 1) (2 ^ 64 - 1)

-- the count rose, or stands at the last value of a u64
abbrev pub Rose : ℕ → ℕ → Type 0
Rose before now = next before ≤ now

-- the source gave exactly these bytes
abbrev pub Gave : Option (List ℕ) → Option (List ℕ) → List ℕ → Type 0
Gave (Some old) (Some new) bytes = old ≡ bytes ++ new
Gave (Some old) None bytes = ⊥
Gave None (Some new) bytes = ⊥
Gave None None bytes = Unit {0}

-- nothing is left
abbrev pub IsAtEnd : Option (List ℕ) → Type 0
IsAtEnd (Some left) = left ≡ []
IsAtEnd None = Unit {0}

-- A read took the next n bytes into buf; 0 comes only where nothing is left, and a refusal takes
-- nothing.
abbrev pub Gives : {F : Type 0} → Option (List ℕ) → Option (List ℕ) → Result ℕ F → List ℕ → Type 0
Gives old new (Ok n) buf = Gave old new (take n buf) × (n ≡ 0 → IsAtEnd old)
Gives old new (Err f) buf = Gave old new []

-- the source gave these bytes, at most `limit` of them
pub record GaveUpTo (limit : ℕ) (old new : Option (List ℕ)) : Type 0 where
  pub bytes : List ℕ
  pub gave : Gave old new bytes
  pub within : length bytes ≤ limit

-- the source gave these bytes, more than `limit` of them
pub record GaveOver (limit : ℕ) (old new : Option (List ℕ)) : Type 0 where
  pub bytes : List ℕ
  pub gave : Gave old new bytes
  pub over : limit < length bytes

-- the sink took exactly these bytes
abbrev pub TakesAll : Option (List ℕ) → Option (List ℕ) → List ℕ → Type 0
TakesAll (Some old) (Some new) bytes = new ≡ old ++ bytes
TakesAll (Some old) None bytes = ⊥
TakesAll None (Some new) bytes = ⊥
TakesAll None None bytes = Unit {0}

-- the sink took a prefix of these bytes
abbrev pub TakesPrefix : Option (List ℕ) → Option (List ℕ) → List ℕ → Type 0
TakesPrefix old new bytes = (n : ℕ) × (n ≤ length bytes) × TakesAll old new (take n bytes)

-- A write took just the first n bytes of the piece; a refusal takes a prefix of it.
abbrev pub Takes : {F : Type 0} → Option (List ℕ) → Option (List ℕ) → Result ℕ F → List ℕ → Type 0
Takes old new (Ok n) bytes = TakesAll old new (take n bytes)
Takes old new (Err f) bytes = TakesPrefix old new bytes
