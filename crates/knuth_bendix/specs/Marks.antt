-- What is looked at of words before they are compared.
use Rattle.std.specs.Prelude.{◌≡◌, ℕ, zero, suc, ◌+◌, ◌-◌, ◌*◌, ◌%◌, ◌^◌, ◌<◌, ◌≤◌, List, length, map, reverse, slice_index_or}
use Rattle.std.specs.Int.Bits.{bit_or}
use Rattle.theory.specs.Word.{Word}
use Rattle.knuth_bendix.specs.declared.marks.Marks.{Marks}
use Rattle.knuth_bendix.specs.declared.shares.Shares.{Shares}
use Rattle.knuth_bendix.specs.declared.indexed_rules.Index.{Index}
use Rattle.knuth_bendix.specs.Overlaps.{HasLength, overlaps_by}

-- the key of two letters, one of 256
abbrev pub key_of : ℕ → ℕ → ℕ
key_of a b = a % 32 * 8 + b % 8

-- the key of the first two letters of a word, with 0 for a letter that it does not have
abbrev pub key : Word → ℕ
key f = key_of (slice_index_or f 0 0) (slice_index_or f 1 0)

-- the bit of two letters, one of 64
abbrev pub bit : ℕ → ℕ → ℕ
bit a b = 2 ^ (a % 8 * 8 + b % 8)

-- the bits of the first letters of a word, so many, each with the letter behind it
abbrev pub bits_up_to : Word → ℕ → ℕ
bits_up_to f zero = 0
bits_up_to f (suc n) = bit_or (bits_up_to f n)
    (bit (slice_index_or f n 0) (slice_index_or f (suc n) 0))

-- the sign of a word: the bits of each two letters of which one follows the other
abbrev pub sign : Word → ℕ
sign f = bits_up_to f (length f - 1)

-- the marks of a left side
abbrev pub marks_of : Word → Marks
marks_of f = record { first = key f; last = key (reverse f); letters = length f; sign = sign f }

-- a word of more than one letter that begins with the last letter of f may share it
abbrev pub BoundsOne : Word → List ℕ → Type 0
BoundsOne f most = (g : Word) → 0 < length f → 1 < length g → overlaps_by f g 1
    → 0 < slice_index_or most (key g) 0

-- what the end of f shares with the beginning of a longer word has no more letters than are listed
-- for the key of that
abbrev pub BoundsShares : Word → List ℕ → Type 0
BoundsShares f most = (g : Word) (shared : ℕ) → 0 < shared → shared < length f → shared < length g
    → overlaps_by f g shared → shared ≤ slice_index_or most (key g) 0

-- what the end of the word may share with others, and how many letters there may be behind it
pub record AreSharesOf (f : Word) (shares : Shares) : Type 0 where
  pub most : BoundsShares f shares.most
  pub room : (n : ℕ) → n < 2 ^ 64 → HasLength shares.lengths (length f + n) → n ≤ shares.room

-- the marks of all left sides, and the signs of all right sides
pub record IsIndexOf (rules : List (Word × Word)) (index : Index) : Type 0 where
  pub lefts : index.lefts.items ≡ map (λ r. marks_of r.0) rules
  pub rights : index.rights.items ≡ map (λ r. sign r.1) rules
