-- Classes of words by numbers, and the numbers of their products with letters (Froidure and Pin
-- 1997).
use Rattle.std.specs.Prelude.{◌≡◌, ℕ, ◌<◌, false, List, [], ◌∷◌, ◌++◌, length, slice_index_or}
use Rattle.theory.specs.Word.{Word, IsElement}
use Rattle.theory.specs.Class.{IsClassList}
use Rattle.problem.specs.declared.kinds.Problem.{Problem}
use Rattle.problem.specs.Problem.{SameValueOf, count_of}
use Rattle.froidure_pin.specs.declared.tables.CayleyTables.{CayleyTables}
use Rattle.cayley.specs.Tables.{FitTogether, edge, number_in}

-- i is the number of the class of u among the least words
abbrev pub IsNumbered : (Word → Word → Type 0) → List Word → ℕ → Word → Type 0
IsNumbered R words i u = (i < length words) × R u (slice_index_or words i [])

-- the least words of all classes, and the numbers of each of them times each of k letters, and of
-- each letter times each of them
pub record AreCayleyGraphs (R : Word → Word → Type 0) (k : ℕ) (words : List Word)
    (right left : ℕ → ℕ → ℕ) : Type 0 where
  pub listed : IsClassList R words
  pub on_right : (i a : ℕ) → i < length words → a < k
      → IsNumbered R words (right i a) (slice_index_or words i [] ++ a ∷ [])
  pub on_left : (i a : ℕ) → i < length words → a < k
      → IsNumbered R words (left i a) (a ∷ slice_index_or words i [])

-- the tables list the elements by their least words, number their products with letters, and lead
-- from the number of its first letter along each word to the number of its element
pub record AreTablesFor (p : Problem) (t : CayleyTables) : Type 0 where
  pub fit : FitTogether t
  pub letters : length t.letters ≡ count_of p
  pub graphs : AreCayleyGraphs (SameValueOf p) (count_of p) t.words (edge t.right) (edge t.left)
  pub every : (u : Word) → IsElement false (count_of p) u
      → IsNumbered (SameValueOf p) t.words (number_in t u) u
