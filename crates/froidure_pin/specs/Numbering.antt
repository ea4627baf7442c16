-- What a table keeps, and what its numbers mean (Froidure and Pin 1997).
use Rattle.std.specs.Prelude.{◌≡◌, ℕ, zero, suc, ◌+◌, ◌*◌, ◌<◌, ◌≤◌, Bool, false, List, [], ◌∷◌, length, slice_index, slice_index_or, take, drop, fold, refl}
use Rattle.std.specs.Coded.{Coded, code_by, coded×, coded_list, coded_ℕ}
use Rattle.theory.specs.Word.{Word, IsElement}
use Rattle.theory.specs.Semigroup.{AreNumbered}
use Rattle.froidure_pin.specs.Found.{IsNumberIn, AreFactors, entry}
use Rattle.elements.specs.Generators.{value_by}
use Rattle.froidure_pin.specs.declared.parts.Factor.{Factor}

-- the elements, their words, and how many letters there are; the numbers of the products by each
-- letter on the right, and on the left, in a row of the empty word and then in one of each element
pub record TableOf (V : Type 0) : Type 0 where
  pub elements : List V
  pub words : List Word
  pub letters : ℕ
  pub right : List ℕ
  pub left : List ℕ

abbrev pub table_code : {V : Type 0} → Coded V → Coded (TableOf V)
table_code {V} code =
    code_by (List V × (List Word × (ℕ × (List ℕ × List ℕ))))
    (coded× (coded_list code)
    (coded× (coded_list (coded_list coded_ℕ))
    (coded× coded_ℕ (coded× (coded_list coded_ℕ) (coded_list coded_ℕ)))))
    (λ t. (t.elements, (t.words, (t.letters, (t.right, t.left)))))
    (λ p. record {
      elements = p.0;
      words = p.1.0;
      letters = p.1.1.0;
      right = p.1.1.1.0;
      left = p.1.1.1.1;
    })
    (λ _. refl)

-- the number of a letter's generator
abbrev pub letter_number : {V : Type 0} → TableOf V → ℕ → ℕ
letter_number t a = slice_index t.right a

-- the number of the product of the element of a number by a letter's generator
abbrev pub right_number : {V : Type 0} → TableOf V → ℕ → ℕ → ℕ
right_number t i a = entry t.letters t.right (i + 1) a

-- the number of the product of a letter's generator by the element of a number
abbrev pub left_number : {V : Type 0} → TableOf V → ℕ → ℕ → ℕ
left_number t i a = entry t.letters t.left (i + 1) a

-- the number of the value of a word: from the number of its first letter along the others
abbrev pub number_of : {V : Type 0} → TableOf V → Word → ℕ
number_of t [] = 0
number_of t (a ∷ u) = fold (right_number t) (letter_number t a) u

-- the numbers are those of the products, letters and words
pub record IsNumbering {V : Type 0} (product : V → V → V) (equal : V → V → Bool)
    (generators : List V) (unused : V) (table : TableOf V) : Type 0 where
  pub letters : table.letters ≡ length generators
  pub numbered : AreNumbered (length generators) equal (value_by product generators unused)
      (length table.words) (λ i. slice_index_or table.words i []) (right_number table)
      (left_number table)
  pub single : (a : ℕ) → a < length generators
      → IsNumberIn (length generators) equal (value_by product generators unused) table.words
      (letter_number table a) (a ∷ [])
  pub every : (u : Word) → IsElement false (length generators) u
      → IsNumberIn (length generators) equal (value_by product generators unused) table.words
      (number_of table u) u

-- a row of k numbers below n for the empty word, and for each of n elements
pub record AreRows (k n : ℕ) (numbers : List ℕ) : Type 0 where
  pub count : length numbers ≡ (n + 1) * k
  pub within : (p : ℕ) → p < length numbers → slice_index numbers p < n

-- what the parts of a table have in common
pub record AreParts (letters n : ℕ) (factors : List Factor) (right left : List ℕ) : Type 0 where
  pub some : 0 < letters
  pub few : letters ≤ 256
  pub count : length factors ≡ n
  pub known : AreFactors letters factors
  pub on_right : AreRows letters n right
  pub on_left : AreRows letters n left

-- one number for each of k letters
pub record IsRowBy (k : ℕ) (number : ℕ → ℕ) (row : List ℕ) : Type 0 where
  pub count : length row ≡ k
  pub at : (a : ℕ) → a < k → slice_index row a ≡ number a

-- n rows of k numbers, cut from a list
abbrev pub rows_in : ℕ → ℕ → List ℕ → List (List ℕ)
rows_in k zero numbers = []
rows_in k (suc n) numbers = take k numbers ∷ rows_in k n (drop k numbers)

-- one row for each of n elements
pub record AreRowsBy (n k : ℕ) (number : ℕ → ℕ → ℕ) (rows : List (List ℕ)) : Type 0 where
  pub count : length rows ≡ n
  pub row : (i : ℕ) → i < n → IsRowBy k (number i) (slice_index_or rows i [])
