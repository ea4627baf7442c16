-- Newer rules, found by the last letters of their left sides.
use Rattle.std.specs.Prelude.{◌≡◌, ℕ, ◌+◌, ◌-◌, ◌*◌, ◌%◌, ◌<◌, ◌≤◌, List, [], ◌∷◌, length, drop, slice_index_or, Option, None, Some}
use Rattle.theory.specs.Word.{Word}
use Rattle.rewriting.specs.Tries.{left_at}
use Rattle.rewriting.specs.declared.newer.Newer.{Newer}

-- the key that letters make behind a key
abbrev pub key_from : ℕ → Word → ℕ
key_from key [] = key
key_from key (a ∷ u) = key_from ((key * 7 + a) % 256) u

-- the key of the last letters, so many
abbrev pub end_key : ℕ → Word → ℕ
end_key depth u = key_from 0 (drop (length u - depth) u)

-- the last number below the count that has the key, if there is one
abbrev pub IsLatest : (ℕ → ℕ) → ℕ → ℕ → Option ℕ → Type 0
IsLatest keys count key None = (n : ℕ) → n < count → keys n ≡ key → ⊥
IsLatest keys count key (Some m) = (m < count) × (keys m ≡ key)
    × ((n : ℕ) → m < n → n < count → keys n ≡ key → ⊥)

-- the key of the left side of a rule behind the first ones
abbrev pub newer_key : List (Word × Word) → ℕ → ℕ → ℕ → ℕ
newer_key rules first depth number = end_key depth (left_at rules (first + number))

-- the rules behind the first ones, so many, by their keys: the last one of each key, and the last
-- one before each that has its key
pub record AreNewerTo (rules : List (Word × Word)) (first count : ℕ) (newer : Newer) : Type 0 where
  pub all : length newer.before.items ≡ count
  pub latest : (key : ℕ) → key < 256 → IsLatest (newer_key rules first newer.depth) count key
      (slice_index_or newer.latest.items key None)
  pub before : (number : ℕ) → number < count → IsLatest (newer_key rules first newer.depth) number
      (newer_key rules first newer.depth number) (slice_index_or newer.before.items number None)

-- all rules behind the first ones, whose left sides have as many letters as make a key
pub record AreNewer (rules : List (Word × Word)) (first : ℕ) (newer : Newer) : Type 0 where
  pub count : first + length newer.before.items ≡ length rules
  pub some : 0 < newer.depth
  pub long : (place : ℕ) → first ≤ place → place < length rules
      → newer.depth ≤ length (left_at rules place)
  pub to : AreNewerTo rules first (length newer.before.items) newer
