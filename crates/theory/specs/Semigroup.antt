-- A semigroup of values by its generators, and numberings of its elements (Froidure and Pin 1997).
use Rattle.std.specs.Prelude.{◌≡◌, ℕ, ◌<◌, Bool, false, [], ◌∷◌, ◌++◌}
use Rattle.theory.specs.Word.{Word, IsElement}
use Rattle.theory.specs.Value.{value, SameValue}

-- generators of one shape, one for each letter; `unused` stands where there is none
pub record Semigroup {V : Type 0} (shape : V → ℕ × ℕ) (product : V → V → V)
    (equal : V → V → Bool) : Type 0 where
  pub letters : ℕ
  pub generator : ℕ → V
  pub unused : V
  pub one : ℕ × ℕ
  pub shaped : (a : ℕ) → a < letters → shape (generator a) ≡ one

-- the product of a word's generators
abbrev pub value_of : {V : Type 0} {shape : V → ℕ × ℕ} {product : V → V → V}
    {equal : V → V → Bool} → Semigroup shape product equal → Word → V
value_of {product = product} s = value product s.generator s.unused

-- values that are numbered below n, each by a word
module _ {V : Type 0} (k : ℕ) (equal : V → V → Bool) (val : Word → V) (n : ℕ)
    (word : ℕ → Word) where
  -- i is below n, and its word has the value of u
  abbrev pub IsNumberBelow : ℕ → Word → Type 0
  IsNumberBelow i u = (i < n) × SameValue k equal val u (word i)

  -- each value has one number, and the edges of the right and the left Cayley graph lead to its
  -- products with the letters
  pub record AreNumbered (right left : ℕ → ℕ → ℕ) : Type 0 where
    pub elements : (i : ℕ) → i < n → IsElement false k (word i)
    pub all : (u : Word) → IsElement false k u → (i : ℕ) × IsNumberBelow i u
    pub distinct : (i j : ℕ) → i < n → j < n → SameValue k equal val (word i) (word j) → i ≡ j
    pub on_right : (i a : ℕ) → i < n → a < k → IsNumberBelow (right i a) (word i ++ a ∷ [])
    pub on_left : (i a : ℕ) → i < n → a < k → IsNumberBelow (left i a) (a ∷ word i)

module _ {V : Type 0} {shape : V → ℕ × ℕ} {product : V → V → V} {equal : V → V → Bool} where
  -- the elements by numbers, each with a word, and the edges of the Cayley graphs
  pub record Numbering (s : Semigroup shape product equal) : Type 0 where
    pub count : ℕ
    pub word : ℕ → Word
    pub right : ℕ → ℕ → ℕ
    pub left : ℕ → ℕ → ℕ
    pub numbered : AreNumbered s.letters equal (value_of s) count word right left

  -- i is the number of u
  abbrev pub IsNumberOf : {s : Semigroup shape product equal} → Numbering s → ℕ → Word → Type 0
  IsNumberOf {s} t = IsNumberBelow s.letters equal (value_of s) t.count t.word
