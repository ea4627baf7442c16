-- Completion within a bound on the length (Knuth and Bendix 1970; Sims 1994, ch. 2).
use Rattle.std.specs.Prelude.{◌≡◌, ◌≢◌, ℕ, ◌<◌, ◌≤◌, List, [], ◌++◌, length, All, Contains}
use Rattle.theory.specs.Word.{Word, IsOver, IsProperFactor}
use Rattle.theory.specs.ShortLex.{◌≺◌}
use Rattle.theory.specs.Congruence.{Presentation, EitherWay}
use Rattle.theory.specs.Chain.{Step, Joined}
use Rattle.theory.specs.Class.{IsReducedRule}
use Rattle.theory.specs.declared.Kind.TheVariants.{TwoSided}

module _ (p : Presentation) (L : ℕ) where
  -- u is a word over the presentation's letters with at most L of them
  pub record Fits (u : Word) : Type 0 where
    pub over : IsOver p.letters u
    pub short : length u ≤ L

  -- the least equivalence on the words that fit which has the relations that fit, and is kept in
  -- each context that fits
  pub data Within : Word → Word → Type 0 where
    same : {u : Word} → Fits u → Within u u
    symmetric : {u v : Word} → Within u v → Within v u
    transitive : {u v w : Word} → Within u v → Within v w → Within u w
    relation : {r s : Word} → EitherWay p.relations r s → Fits r → Fits s → Within r s
    context : (u v x y : Word)
        → Within u v → Fits (x ++ (u ++ y)) → Fits (x ++ (v ++ y))
        → Within (x ++ (u ++ y)) (x ++ (v ++ y))

-- the rules that completion arrives at: the reduced rules of that equivalence
abbrev pub Rule : Presentation → ℕ → Word → Word → Type 0
Rule p L = IsReducedRule (Within p L)

-- the rules lead from u to v
abbrev pub Reduces : (Word → Word → Type 0) → Word → Word → Type 0
Reduces R = Joined (Step R TwoSided)

-- no left side of a rule is a factor of u: no rule applies
abbrev pub IsReduced : (Word → Word → Type 0) → Word → Type 0
IsReduced R u = (v : Word) → Step R TwoSided u v → ⊥

-- the rules lead from both to one word
pub record Joinable (R : Word → Word → Type 0) (u v : Word) : Type 0 where
  pub word : Word
  pub left : Reduces R u word
  pub right : Reduces R v word

-- each overlap abc of left sides ab and bc leads to one word either way
abbrev pub OverlapsJoin : (Word → Word → Type 0) → Type 0
OverlapsJoin R = (a b c v w : Word) → b ≢ [] → R (a ++ b) v → R (b ++ c) w
    → Joinable R (v ++ c) (a ++ w)

-- both sides of each relation fit, and each overlap of the rules leads to one word
pub record CompletionEnds (p : Presentation) (L : ℕ) : Type 0 where
  pub fits : All (λ r. (length r.0 ≤ L) × (length r.1 ≤ L)) p.relations
  pub join : OverlapsJoin (Rule p L)

-- a side of a relation is too long: completion does not end
pub record HasLongSide (p : Presentation) (L : ℕ) : Type 0 where
  pub side : Word
  pub other : Word
  pub known : EitherWay p.relations side other
  pub long : L < length side

-- an overlap abc of two rules leads to two reduced words: completion does not end
pub record HasBadOverlap (p : Presentation) (L : ℕ) : Type 0 where
  pub a : Word
  pub b : Word
  pub c : Word
  pub v : Word
  pub w : Word
  pub x : Word
  pub y : Word
  pub overlaps : b ≢ []
  pub left : Rule p L (a ++ b) v
  pub right : Rule p L (b ++ c) w
  pub down_left : Reduces (Rule p L) (v ++ c) x
  pub down_right : Reduces (Rule p L) (a ++ w) y
  pub end_left : IsReduced (Rule p L) x
  pub end_right : IsReduced (Rule p L) y
  pub differ : x ≢ y

-- the pairs of the list, as rules
abbrev pub Listed : List (Word × Word) → Word → Word → Type 0
Listed rules l r = Contains rules (l, r)

-- a list of rules as completion within the bound leaves it
pub record AreRules (p : Presentation) (L : ℕ) (rules : List (Word × Word)) : Type 0 where
  pub related : (l r : Word) → Listed rules l r → Within p L l r
  pub falls : (l r : Word) → Listed rules l r → r ≺ l
  pub reduced : (l r : Word) → Listed rules l r → IsReduced (Listed rules) r
  pub apart : (l r f g : Word) → Listed rules l r → Listed rules f g → IsProperFactor f l → ⊥
  -- reduced words that are related within the bound are one
  pub full : (u v : Word) → Within p L u v → IsReduced (Listed rules) u → IsReduced (Listed rules) v
      → u ≡ v
