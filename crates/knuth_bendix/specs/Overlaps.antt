-- Overlaps of left sides, and the pairs of words to which they lead (Knuth and Bendix 1970; Sims
-- 1994, 2.5).
use Rattle.std.specs.Prelude.{◌≡◌, ◌≢◌, ℕ, ◌+◌, ◌-◌, ◌<◌, ◌≤◌, ◌⊎◌, List, [], ◌++◌, length, take, drop, slice_index_or, All}
use Rattle.theory.specs.Word.{Word}
use Rattle.theory.specs.Completion.{IsReduced, Listed, Reduces}
use Rattle.knuth_bendix.specs.declared.lengths.Lengths.{Lengths}
use Rattle.knuth_bendix.specs.declared.lengths.Lengths.TheVariants.{UpTo, Beyond}
use Rattle.knuth_bendix.specs.declared.indexed_rules.Sharing.{Sharing}

-- the rule at a place
abbrev pub rule_at : List (Word × Word) → ℕ → Word × Word
rule_at rules place = slice_index_or rules place ([], [])

-- no side of a rule has more letters than so many
abbrev pub AreShort : ℕ → List (Word × Word) → Type 0
AreShort most = All (λ r. (length r.0 ≤ most) × (length r.1 ≤ most))

-- the last letters of f, so many, are the first letters of g
abbrev pub overlaps_by : Word → Word → ℕ → Type 0
overlaps_by f g shared = drop (length f - shared) f ≡ take shared g

-- the words to which two rules lead from the word in which their left sides share so many letters
abbrev pub critical_pair : Word × Word → Word × Word → ℕ → Word × Word
critical_pair p q shared = (p.1 ++ drop shared q.0, take (length p.0 - shared) p.0 ++ q.1)

-- the same of the rules at two places
abbrev pub critical_at : List (Word × Word) → Sharing → Word × Word
critical_at rules at = critical_pair (rule_at rules at.first) (rule_at rules at.second) at.shared

-- a word of n letters is one of these
abbrev pub HasLength : Lengths → ℕ → Type 0
HasLength (UpTo most) n = n ≤ most
HasLength (Beyond most) n = most < n

-- the left sides of the rules share so many letters, some and not all, in a word of such a length
pub record IsOverlap (lengths : Lengths) (p q : Word × Word) (shared : ℕ) : Type 0 where
  pub some : 0 < shared
  pub first : shared < length p.0
  pub second : shared < length q.0
  pub overlaps : overlaps_by p.0 q.0 shared
  pub within : HasLength lengths (length p.0 + (length q.0 - shared))

-- the rules lead from both words to one, or to the two words of a listed equation
pub record IsJoinedBy (rules equations : List (Word × Word)) (u v : Word) : Type 0 where
  pub left : Word
  pub right : Word
  pub down_left : Reduces (Listed rules) u left
  pub down_right : Reduces (Listed rules) v right
  pub met : (left ≡ right) ⊎ Listed equations left right

-- each overlap of the two rules is joined
abbrev pub AreJoined : Lengths → List (Word × Word) → List (Word × Word) → Word × Word
    → Word × Word → Type 0
AreJoined lengths rules equations p q = (shared : ℕ) → IsOverlap lengths p q shared
    → IsJoinedBy rules equations (critical_pair p q shared).0 (critical_pair p q shared).1

-- u and v are the different reduced words to which an overlap of the two rules leads
pub record IsApart (lengths : Lengths) (rules : List (Word × Word)) (p q : Word × Word)
    (u v : Word) : Type 0 where
  pub shared : ℕ
  pub overlap : IsOverlap lengths p q shared
  pub down_left : Reduces (Listed rules) (critical_pair p q shared).0 u
  pub down_right : Reduces (Listed rules) (critical_pair p q shared).1 v
  pub end_left : IsReduced (Listed rules) u
  pub end_right : IsReduced (Listed rules) v
  pub differ : u ≢ v

-- the overlap of two rules, by their places, leads to the reduced words left and right
pub record ReducesTo (rules : List (Word × Word)) (overlap : Sharing)
    (left right : Word) : Type 0 where
  pub down_left : Reduces (Listed rules) (critical_at rules overlap).0 left
  pub down_right : Reduces (Listed rules) (critical_at rules overlap).1 right
  pub end_left : IsReduced (Listed rules) left
  pub end_right : IsReduced (Listed rules) right

-- u and v come of an overlap of two of the rules
pub record IsSplit (lengths : Lengths) (rules : List (Word × Word)) (u v : Word) : Type 0 where
  pub first : ℕ
  pub second : ℕ
  pub first_within : first < length rules
  pub second_within : second < length rules
  pub apart : IsApart lengths rules (rule_at rules first) (rule_at rules second) u v

-- the new equations are the old ones and some that come of overlaps, at most so many
pub record Gains (lengths : Lengths) (rules old new : List (Word × Word)) (most : ℕ) : Type 0 where
  pub older : (u v : Word) → Listed old u v → Listed new u v
  pub newer : (u v : Word) → Listed new u v → Listed old u v ⊎ IsSplit lengths rules u v
  pub few : length new ≤ length old + most
