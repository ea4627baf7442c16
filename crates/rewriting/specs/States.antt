-- The states of the automaton: the proper prefixes of left sides (Aho and Corasick 1975; Sims 1994,
-- 3.5).
use Rattle.std.specs.Prelude.{◌≡◌, ℕ, ◌<◌, ◌≤◌, List, [], ◌∷◌, ◌++◌, length, take, slice_index_or, Contains, Option, None, Some}
use Rattle.theory.specs.Word.{Word}
use Rattle.theory.specs.Completion.{Listed}

-- a left side stands at the end of u
pub record HasEnd (rules : List (Word × Word)) (u : Word) : Type 0 where
  pub left : Word
  pub right : Word
  pub before : Word
  pub listed : Listed rules left right
  pub is : u ≡ before ++ left

-- the left side of the rule of this number stands at the end of u
pub record EndsAt (rules : List (Word × Word)) (u : Word) (number : ℕ) : Type 0 where
  pub within : number < length rules
  pub before : Word
  pub is : u ≡ before ++ (slice_index_or rules number ([], [])).0

-- the state at the place stands at the end of u, and no longer one does
pub record IsLongest (states : List Word) (u : Word) (place : ℕ) : Type 0 where
  pub within : place < length states
  pub before : Word
  pub is : u ≡ before ++ slice_index_or states place []
  pub longest : (x s : Word) → u ≡ x ++ s → Contains states s
      → length s ≤ length (slice_index_or states place [])

-- what stands at the end of u: the left side of a rule, or else the longest state
abbrev pub IsStep : List (Word × Word) → List Word → Word → ℕ → Option ℕ → Type 0
IsStep rules states u next (Some number) = EndsAt rules u number
IsStep rules states u next None = (HasEnd rules u → ⊥) × IsLongest states u next

-- the empty word first, and with each word that without its last letter
pub record ArePrefixes (states : List Word) : Type 0 where
  pub some : 0 < length states
  pub root : slice_index_or states 0 [] ≡ []
  pub closed : (p : Word) (a : ℕ) → Contains states (p ++ a ∷ []) → Contains states p

-- the prefixes of u with fewer letters than the count are there
abbrev pub HavePrefixes : List Word → Word → ℕ → Type 0
HavePrefixes states u count = (c : ℕ) → c < count → Contains states (take c u)

-- the proper prefixes of left sides are there
pub record AreStates (rules : List (Word × Word)) (states : List Word) : Type 0 where
  pub prefixes : ArePrefixes states
  pub lefts : (n : ℕ) → n < length rules
      → HavePrefixes states (slice_index_or rules n ([], [])).0
      (length (slice_index_or rules n ([], [])).0)
