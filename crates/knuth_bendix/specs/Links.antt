-- Words that are linked below a bound (Winkler and Buchberger 1983).
use Rattle.std.specs.Prelude.{◌≡◌, ◌≢◌, ℕ, ◌≤◌, List, [], ◌++◌, length, ◌⊎◌}
use Rattle.theory.specs.Word.{Word, IsProperFactor}
use Rattle.theory.specs.ShortLex.{◌≺◌}
use Rattle.theory.specs.Congruence.{Presentation, EitherWay}
use Rattle.theory.specs.Chain.{Step, Joined}
use Rattle.theory.specs.Completion.{Listed}
use Rattle.theory.specs.declared.Kind.TheVariants.{TwoSided}

-- a step either way between words that have a property
pub record LinkStep (S : Word → Word → Type 0) (Q : Word → Type 0) (u v : Word) : Type 0 where
  pub left : Q u
  pub right : Q v
  pub step : Step S TwoSided u v ⊎ Step S TwoSided v u

-- steps either way lead from u to v through words that have the property
abbrev pub Linked : (Word → Word → Type 0) → (Word → Type 0) → Word → Word → Type 0
Linked S Q = Joined (LinkStep S Q)

-- x comes before w
abbrev pub IsBelow : Word → Word → Type 0
IsBelow w x = x ≺ w

-- x has at most L letters
abbrev pub IsShort : ℕ → Word → Type 0
IsShort L x = length x ≤ L

-- x is u or comes before it
abbrev pub NoLater : Word → Word → Type 0
NoLater x u = (x ≺ u) ⊎ (x ≡ u)

-- x is no later than u, or no later than v
abbrev pub IsNoMore : Word → Word → Word → Type 0
IsNoMore u v x = NoLater x u ⊎ NoLater x v

-- the second relation links each pair of the first, through words no later than its sides
abbrev pub IsCovered : (Word → Word → Type 0) → (Word → Word → Type 0) → Type 0
IsCovered S S' = (u v : Word) → S u v → Linked S' (IsNoMore u v) u v

-- the rules fall and stand apart, the overlaps that fit are linked below, and the relations that
-- fit through short words
pub record IsLinkedUp (p : Presentation) (L : ℕ) (S : Word → Word → Type 0)
    (rules : List (Word × Word)) : Type 0 where
  pub falls : (l r : Word) → Listed rules l r → r ≺ l
  pub apart : (l r f g : Word) → Listed rules l r → Listed rules f g → IsProperFactor f l → ⊥
  pub overlaps : (a b c v w : Word) → b ≢ [] → Listed rules (a ++ b) v → Listed rules (b ++ c) w
      → length (a ++ (b ++ c)) ≤ L
      → Linked S (IsBelow (a ++ (b ++ c))) (v ++ c) (a ++ w)
  pub relations : (r s : Word) → EitherWay p.relations r s → length r ≤ L → length s ≤ L
      → Linked S (IsShort L) r s
