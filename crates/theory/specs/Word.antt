-- Words over an alphabet (Sims 1994, ch. 1; libsemigroups: word_type).
use Rattle.std.specs.Prelude.{◌≡◌, ◌≢◌, ℕ, ◌<◌, Bool, true, false, List, [], ◌∷◌, ◌++◌, map, reverse}

-- a word: a list of letters, each the number of its place in the alphabet
abbrev pub Word : Type 0
Word = List ℕ

-- each letter is one of the first k
abbrev pub IsOver : ℕ → Word → Type 0
IsOver k [] = Unit {0}
IsOver k (a ∷ u) = (a < k) × IsOver k u

-- f stands somewhere in u
pub record IsFactor (f u : Word) : Type 0 where
  pub before : Word
  pub after : Word
  pub is : u ≡ before ++ (f ++ after)

-- f stands somewhere in u, and is not all of it
pub record IsProperFactor (f u : Word) : Type 0 where
  pub factor : IsFactor f u
  pub proper : f ≢ u

-- p stands at the front of u
pub record IsPrefix (p u : Word) : Type 0 where
  pub after : Word
  pub is : u ≡ p ++ after

-- which words are elements: all in a monoid, the non-empty ones in a semigroup
abbrev pub IsElement : Bool → ℕ → Word → Type 0
IsElement true k u = IsOver k u
IsElement false k u = (u ≢ []) × IsOver k u

-- both words backwards
abbrev pub reversed_pair : Word × Word → Word × Word
reversed_pair p = (reverse p.0, reverse p.1)

-- each pair of words, both backwards
abbrev pub reversed_pairs : List (Word × Word) → List (Word × Word)
reversed_pairs = map reversed_pair
