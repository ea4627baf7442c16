-- Values of words over generators (Froidure and Pin 1997; libsemigroups: FroidurePin).
use Rattle.std.specs.Prelude.{ℕ, ◌≤◌, ◌<◌, Bool, false, List, [], ◌∷◌, fold, map, length, IsTrue, Contains}
use Rattle.theory.specs.Word.{Word, IsElement}
use Rattle.theory.specs.Chain.{StepBy, Joined}
use Rattle.theory.specs.Class.{Among}
use Rattle.theory.specs.declared.Kind.{Kind}

-- the product of a word's generators, from left to right; the empty word has no value, and `unused`
-- stands for it
abbrev pub value : {V : Type 0} → (V → V → V) → (ℕ → V) → V → Word → V
value product generator unused [] = unused
value product generator unused (a ∷ u) = fold product (generator a) (map generator u)

-- values of one shape, with an associative product that keeps equal values equal
pub record IsProduct {V : Type 0} (HasShape : V → Type 0) (product : V → V → V)
    (equal : V → V → Bool) : Type 0 where
  pub shape : (x y : V) → HasShape x → HasShape y → HasShape (product x y)
  pub associative : (x y z : V)
      → HasShape x → HasShape y → HasShape z
      → IsTrue (equal (product (product x y) z) (product x (product y z)))
  pub kept : (x y z w : V)
      → HasShape x → HasShape y → HasShape z → HasShape w → IsTrue (equal x y) → IsTrue (equal z w)
      → IsTrue (equal (product x z) (product y w))
  pub reflexive : (x : V) → IsTrue (equal x x)
  pub symmetric : (x y : V) → IsTrue (equal x y) → IsTrue (equal y x)
  pub transitive : (x y z : V) → IsTrue (equal x y) → IsTrue (equal y z) → IsTrue (equal x z)

-- two elements have equal values
abbrev pub SameValue : {V : Type 0} → ℕ → (V → V → Bool) → (Word → V) → Word → Word → Type 0
SameValue k equal value_of = Among (IsElement false k)
    (λ u v. IsTrue (equal (value_of u) (value_of v)))

-- a chain joins the elements; its steps replace a factor by one of equal value, or use a pair
abbrev pub SameElement : {V : Type 0}
    → ℕ → (V → V → Bool) → (Word → V) → Kind → List (Word × Word)
    → Word → Word → Type 0
SameElement k equal value_of kind pairs = Among (IsElement false k)
    (Joined (StepBy (SameValue k equal value_of) kind pairs))

-- the values of the elements are among these
abbrev pub AreValues : {V : Type 0} → ℕ → (V → V → Bool) → (Word → V) → List V → Type 0
AreValues {V} k equal value_of values = (u : Word) → IsElement false k u
    → (x : V) × Contains values x × IsTrue (equal (value_of u) x)

-- the elements have at most n values
pub record HasAtMostValues {V : Type 0} (k : ℕ) (equal : V → V → Bool) (value_of : Word → V)
    (n : ℕ) : Type 0 where
  pub values : List V
  pub few : length values ≤ n
  pub all : AreValues k equal value_of values

-- no two of the words have equal values
abbrev pub AreDistinct : {V : Type 0} → (V → V → Bool) → (Word → V) → List Word → Type 0
AreDistinct equal value_of [] = Unit {0}
AreDistinct equal value_of (u ∷ us) =
    ((v : Word) → Contains us v → IsTrue (equal (value_of u) (value_of v)) → ⊥)
    × AreDistinct equal value_of us

-- more than n elements have different values
pub record HasMoreValues {V : Type 0} (k : ℕ) (equal : V → V → Bool) (value_of : Word → V)
    (n : ℕ) : Type 0 where
  pub words : List Word
  pub many : n < length words
  pub elements : (u : Word) → Contains words u → IsElement false k u
  pub distinct : AreDistinct equal value_of words
