-- The congruence on elements that pairs generate, by products with generators alone (Howie 1995,
-- ch. 1; Froidure and Pin 1997).
use Rattle.std.specs.Prelude.{◌≡◌, ℕ, ◌<◌, Bool, List, ◌⊎◌, IsTrue, Contains}
use Rattle.theory.specs.Word.{Word}
use Rattle.theory.specs.Class.{Among}
use Rattle.theory.specs.Semigroup.{Semigroup, value_of, Numbering, IsNumberOf}
use Rattle.theory.specs.declared.Kind.{Kind}
use Rattle.theory.specs.declared.Kind.TheVariants.{TwoSided, Right, Left}

-- a congruence of this kind is kept under multiplication on the right
abbrev pub IsKeptOnRight : Kind → Type 0
IsKeptOnRight TwoSided = Unit {0}
IsKeptOnRight Right = Unit {0}
IsKeptOnRight Left = ⊥

-- and on the left
abbrev pub IsKeptOnLeft : Kind → Type 0
IsKeptOnLeft TwoSided = Unit {0}
IsKeptOnLeft Right = ⊥
IsKeptOnLeft Left = Unit {0}

-- `right x a` is x times the letter a, `left x a` the letter times x
module _ {X : Type 0} (kind : Kind) (k : ℕ) (right left : X → ℕ → X) (Given : X → X → Type 0) where
  -- the least equivalence that has what is given, and is kept under the k letters on the sides of
  -- its kind
  pub data Generated : X → X → Type 0 where
    given : {x y : X} → Given x y → Generated x y
    symmetric : {x y : X} → Generated x y → Generated y x
    transitive : {x y z : X} → Generated x y → Generated y z → Generated x z
    on_right : (x y : X) (a : ℕ) → IsKeptOnRight kind → a < k → Generated x y
        → Generated (right x a) (right y a)
    on_left : (x y : X) (a : ℕ) → IsKeptOnLeft kind → a < k → Generated x y
        → Generated (left x a) (left y a)

-- the merges lead from one number below n to the other
pub data Linked (n : ℕ) (merges : List (ℕ × ℕ)) : ℕ → ℕ → Type 0 where
  itself : {i : ℕ} → i < n → Linked n merges i i
  merge : {i j : ℕ} → Contains merges (i, j) → Linked n merges i j
  back : {i j : ℕ} → Linked n merges i j → Linked n merges j i
  on : {i j l : ℕ} → Linked n merges i j → Linked n merges j l → Linked n merges i l

-- x and y stand for the sides of a pair
pub record IsPairOf {X : Type 0} (pairs : List (Word × Word)) (StandsFor : X → Word → Type 0)
    (x y : X) : Type 0 where
  pub first : Word
  pub second : Word
  pub listed : Contains pairs (first, second)
  pub left : StandsFor x first
  pub right : StandsFor y second

module _ {V : Type 0} {shape : V → ℕ × ℕ} {product : V → V → V} {equal : V → V → Bool}
    (s : Semigroup shape product equal) (kind : Kind) (pairs : List (Word × Word)) where
  -- equal values of the shape, or the values of a pair
  abbrev pub GivenValue : V → V → Type 0
  GivenValue x y =
      Among (λ z. shape z ≡ s.one) (λ z w. IsTrue (equal z w)) x y
      ⊎ IsPairOf pairs (λ z u. z ≡ value_of s u) x y

  -- the least equivalence on the values of the shape that has these, and is kept under the
  -- generators on the sides of its kind
  abbrev pub GeneratedValue : V → V → Type 0
  GeneratedValue = Generated kind s.letters (λ x a. product x (s.generator a))
      (λ x a. product (s.generator a) x) GivenValue

module _ {V : Type 0} {shape : V → ℕ × ℕ} {product : V → V → V} {equal : V → V → Bool}
    {s : Semigroup shape product equal} (t : Numbering s) where
  -- a number with itself, or the numbers of a pair
  abbrev pub GivenNumber : List (Word × Word) → ℕ → ℕ → Type 0
  GivenNumber pairs i j = ((i < t.count) × (i ≡ j)) ⊎ IsPairOf pairs (IsNumberOf t) i j

  -- the least equivalence on the numbers that has these, and is kept along the edges on the sides
  -- of its kind
  abbrev pub GeneratedNumber : Kind → List (Word × Word) → ℕ → ℕ → Type 0
  GeneratedNumber kind pairs = Generated kind s.letters t.right t.left (GivenNumber pairs)

  -- merges that are generated, link the numbers of each pair, and link what the edges of each merge
  -- lead to
  pub record AreMerges (kind : Kind) (pairs : List (Word × Word))
      (merges : List (ℕ × ℕ)) : Type 0 where
    pub sound : (i j : ℕ) → Contains merges (i, j) → GeneratedNumber kind pairs i j
    pub given : (i j : ℕ) → IsPairOf pairs (IsNumberOf t) i j → Linked t.count merges i j
    pub on_right : (i j a : ℕ) → IsKeptOnRight kind → a < s.letters → Contains merges (i, j)
        → Linked t.count merges (t.right i a) (t.right j a)
    pub on_left : (i j a : ℕ) → IsKeptOnLeft kind → a < s.letters → Contains merges (i, j)
        → Linked t.count merges (t.left i a) (t.left j a)
