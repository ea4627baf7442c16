-- How rules and equations change when a rule is added.
use Rattle.std.specs.Prelude.{◌≡◌, ℕ, ◌+◌, ◌<◌, ◌⊎◌, ◌*◌, List, [], ◌∷◌, ◌++◌, length, not}
use Rattle.std.specs.List.{filter}
use Rattle.std.specs.List.Sorted.{IsPermutation}
use Rattle.theory.specs.Word.{Word, IsFactor}
use Rattle.theory.specs.Congruence.{Presentation}
use Rattle.theory.specs.Completion.{IsReduced, Listed, Reduces, Within}
use Rattle.theory.specs.ShortLex.{◌≺◌}
use Rattle.knuth_bendix.specs.Links.{Linked, NoLater}
use Rattle.knuth_bendix.specs.Held.{Held, lefts}
use Rattle.rewriting.specs.Rules.{AreFalling, stands_in}
use Rattle.knuth_bendix.specs.declared.lengths.Lengths.TheVariants.{UpTo}
use Rattle.knuth_bendix.specs.Overlaps.{AreJoined, AreShort, Gains, rule_at}

-- the rules in whose left sides the word stands have come to the equations, and the others are kept
pub record SetsAside (left : Word) (rules kept old new : List (Word × Word)) : Type 0 where
  pub kept_is : kept ≡ filter (λ r. not (stands_in left r.0)) rules
  pub moved : IsPermutation (old ++ filter (λ r. stands_in left r.0) rules) new

-- right sides have been rewritten: each new one is linked to the old one by the new rules, through
-- words no later than that
pub record Rewrites (old new : List (Word × Word)) : Type 0 where
  pub lefts : lefts new ≡ lefts old
  pub falling : AreFalling new
  pub linked : (i : ℕ) → i < length old
      → Linked (Listed new) (λ x. NoLater x (rule_at old i).1) (rule_at old i).1 (rule_at new i).1
  -- rules that hold within a length stay so
  pub within : (p : Presentation) (L : ℕ) → ((l r : Word) → Listed old l r → Within p L l r)
      → (l r : Word) → Listed new l r → Within p L l r

-- the right side at a place is reduced now, or it is the old one and the word does not stand in it
abbrev pub IsDone : Word → List (Word × Word) → List (Word × Word) → ℕ → Type 0
IsDone f old new i = IsReduced (Listed new) (rule_at new i).1
    ⊎ ((rule_at new i ≡ rule_at old i) × (IsFactor f (rule_at old i).1 → ⊥))

-- a rule has been added: rules in which its left side stands became equations, right sides were
-- rewritten, and its overlaps within the length were joined
pub record AddsRule (L : ℕ) (left right : Word) (old new : Held) : Type 0 where
  pub kept : List (Word × Word)
  pub between : List (Word × Word)
  pub aside : SetsAside left old.rules kept old.equations between
  pub rewrites : Rewrites (kept ++ (left, right) ∷ []) new.rules
  pub done : (i : ℕ) → i < length new.rules → IsDone left (kept ++ (left, right) ∷ []) new.rules i
  pub gains : (most : ℕ) → AreShort most new.rules
      → Gains (UpTo L) new.rules between new.equations (length new.rules * (most + most))
  pub joined : (other : ℕ) → other < length new.rules
      → AreJoined (UpTo L) new.rules new.equations (rule_at new.rules (length kept))
      (rule_at new.rules other)
      × AreJoined (UpTo L) new.rules new.equations (rule_at new.rules other)
      (rule_at new.rules (length kept))

-- the two words were rewritten, and if they became different, these are the sides of a rule that
-- has been added
pub record Joins (L : ℕ) (u v : Word) (old new : Held) : Type 0 where
  pub left : Word
  pub right : Word
  pub down_left : Reduces (Listed old.rules) u left
  pub down_right : Reduces (Listed old.rules) v right
  pub end_left : IsReduced (Listed old.rules) left
  pub end_right : IsReduced (Listed old.rules) right
  pub then : ((left ≡ right) × (new.rules ≡ old.rules) × (new.equations ≡ old.equations))
      ⊎ (((right ≺ left) × AddsRule L left right old new)
      ⊎ ((left ≺ right) × AddsRule L right left old new))
