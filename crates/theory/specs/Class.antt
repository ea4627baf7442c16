-- Classes of words, their least words, and the index (Sims 1994; Froidure and Pin 1997).
-- R relates the elements alone: a word is an element where R relates it to itself.
use Rattle.std.specs.Prelude.{◌≡◌, ℕ, List, length, None, Contains}
use Rattle.theory.specs.Word.{Word, IsElement, IsProperFactor}
use Rattle.theory.specs.ShortLex.{◌≺◌}
use Rattle.theory.specs.Listing.{IsListOf, HaveMoreThan, AreInfinite}
use Rattle.theory.specs.Congruence.{Congruence}
use Rattle.theory.specs.Chain.{Related}

-- both are elements, and related
pub record Among {A : Type 0} (Element : A → Type 0) (R : A → A → Type 0) (u v : A) : Type 0 where
  pub left : Element u
  pub right : Element v
  pub related : R u v

-- the elements of a presentation, related by the congruence
abbrev pub SameClass : Congruence → Word → Word → Type 0
SameClass c = Among (IsElement c.presentation.is_monoid c.presentation.letters) (Related c)

-- u is an element, and the least of its class
pub record IsLeast (R : Word → Word → Type 0) (u : Word) : Type 0 where
  pub element : R u u
  pub none_less : (v : Word) → R u v → v ≺ u → ⊥

-- v is the normal form of u: the least word of u's class
pub record IsNormal (R : Word → Word → Type 0) (u v : Word) : Type 0 where
  pub related : R u v
  pub least : IsLeast R v

-- all classes, each by its least word, in order
abbrev pub IsClassList : (Word → Word → Type 0) → List Word → Type 0
IsClassList R = IsListOf (IsLeast R) ◌≺◌ None

-- there are exactly n classes
abbrev pub HasIndex : (Word → Word → Type 0) → ℕ → Type 0
HasIndex R n = (words : List Word) × IsClassList R words × (length words ≡ n)

-- there are more than n classes
abbrev pub HasMoreThan : (Word → Word → Type 0) → ℕ → Type 0
HasMoreThan R = HaveMoreThan (IsLeast R) ◌≺◌

-- there are infinitely many classes
abbrev pub IsInfinite : (Word → Word → Type 0) → Type 0
IsInfinite R = AreInfinite (IsLeast R) ◌≺◌

-- (u, v) is a reduced rule: u is not least, v is the least of its class, and each proper factor of
-- u that is an element is least
pub record IsReducedRule (R : Word → Word → Type 0) (u v : Word) : Type 0 where
  pub normal : IsNormal R u v
  pub falls : v ≺ u
  pub factors : (f : Word) → IsProperFactor f u → R f f → IsLeast R f

-- the rules are listed by their left sides
abbrev pub RuleBefore : Word × Word → Word × Word → Type 0
RuleBefore p q = p.0 ≺ q.0

-- all reduced rules, in order
abbrev pub IsRuleList : (Word → Word → Type 0) → List (Word × Word) → Type 0
IsRuleList R = IsListOf (λ p. IsReducedRule R p.0 p.1) RuleBefore None

-- each element is related to one of the words
abbrev pub Covers : (Word → Word → Type 0) → List Word → Type 0
Covers R words = (u : Word) → R u u → (w : Word) × Contains words w × R u w
