-- Classes of elements by the tables of a semigroup (Froidure and Pin 1997; Howie 1995, ch. 1).
use Rattle.std.specs.Prelude.{◌≡◌, ℕ, ◌<◌, ◌≤◌, ◌↔◌, List, [], ◌∷◌, ◌⊎◌, length, slice_index, slice_index_or, fold}
use Rattle.theory.specs.Word.{Word}
use Rattle.theory.specs.Generated.{Generated, IsPairOf}
use Rattle.theory.specs.declared.Kind.{Kind}
use Rattle.froidure_pin.specs.declared.tables.CayleyTables.{CayleyTables}

-- to which number an edge leads
abbrev pub edge : List (List ℕ) → ℕ → ℕ → ℕ
edge rows i a = slice_index (slice_index_or rows i []) a

-- the word of a number
abbrev pub word_at : CayleyTables → ℕ → Word
word_at t i = slice_index_or t.words i []

-- the number of a word: from that of its first letter along the right graph
abbrev pub number_in : CayleyTables → Word → ℕ
number_in t [] = 0
number_in t (a ∷ u) = fold (edge t.right) (slice_index t.letters a) u

-- a row of k numbers below n for each number below n
pub record AreEdges (k n : ℕ) (rows : List (List ℕ)) : Type 0 where
  pub count : length rows ≡ n
  pub width : (i : ℕ) → i < n → length (slice_index_or rows i []) ≡ k
  pub within : (i a : ℕ) → i < n → a < k → edge rows i a < n

-- the graphs have an edge of each letter from each number, and each letter has a number
pub record FitTogether (t : CayleyTables) : Type 0 where
  pub right : AreEdges (length t.letters) (length t.words) t.right
  pub left : AreEdges (length t.letters) (length t.words) t.left
  pub letters : (a : ℕ) → a < length t.letters → slice_index t.letters a < length t.words

-- a number with itself, or the numbers of a pair
abbrev pub GivenIn : CayleyTables → List (Word × Word) → ℕ → ℕ → Type 0
GivenIn t pairs i j =
    ((i < length t.words) × (i ≡ j)) ⊎ IsPairOf pairs (λ m u. m ≡ number_in t u) i j

-- the least equivalence on the numbers that has these, and is kept along the edges on the sides of
-- its kind
abbrev pub GeneratedIn : CayleyTables → Kind → List (Word × Word) → ℕ → ℕ → Type 0
GeneratedIn t kind pairs =
    Generated kind (length t.letters) (edge t.right) (edge t.left) (GivenIn t pairs)

-- for each number the least one that is related to it
pub record AreClasses (t : CayleyTables) (kind : Kind) (pairs : List (Word × Word))
    (classes : List ℕ) : Type 0 where
  pub count : length classes ≡ length t.words
  pub related : (i j : ℕ) → i < length t.words → j < length t.words
      → GeneratedIn t kind pairs i j ↔ (slice_index classes i ≡ slice_index classes j)
  pub own : (i : ℕ) → i < length t.words → GeneratedIn t kind pairs i (slice_index classes i)
  pub least : (i j : ℕ) → i < length t.words → GeneratedIn t kind pairs i j
      → slice_index classes i ≤ j
