-- Tables of the semigroup that generators generate, and classes of its elements (Froidure and Pin
-- 1997).
use Rattle.std.specs.Prelude.{◌≡◌, ℕ, ◌<◌, ◌≤◌, ◌↔◌, Bool, false, List, length, slice_index}
use Rattle.theory.specs.Word.{Word, IsElement}
use Rattle.theory.specs.Class.{IsClassList}
use Rattle.theory.specs.Value.{SameValue, SameElement}
use Rattle.theory.specs.Semigroup.{AreNumbered, IsNumberBelow}
use Rattle.theory.specs.declared.Kind.{Kind}
use Rattle.elements.specs.Generators.{value_by}
use Rattle.froidure_pin.specs.Numbering.{TableOf, AreRowsBy, IsRowBy, right_number, left_number, letter_number}
use Rattle.froidure_pin.specs.declared.tables.CayleyTables.{CayleyTables}
use Rattle.cayley.specs.Tables.{edge, word_at, number_in, FitTogether}

-- the tables are what a table is read out as
pub record AreReadFrom {V : Type 0} (table : TableOf V) (t : CayleyTables) : Type 0 where
  pub words : t.words ≡ table.words
  pub right : AreRowsBy (length table.elements) table.letters (right_number table) t.right
  pub left : AreRowsBy (length table.elements) table.letters (left_number table) t.left
  pub letters : IsRowBy table.letters (letter_number table) t.letters

-- the words are the least of all values, and numbers and edges are those of words and of products
-- with generators
pub record AreTablesOf {V : Type 0} (product : V → V → V) (equal : V → V → Bool)
    (generators : List V) (unused : V) (t : CayleyTables) : Type 0 where
  pub fit : FitTogether t
  pub letters : length t.letters ≡ length generators
  pub listed : IsClassList (SameValue (length generators) equal
      (value_by product generators unused)) t.words
  pub numbered : AreNumbered (length generators) equal (value_by product generators unused)
      (length t.words) (word_at t) (edge t.right) (edge t.left)
  pub every : (u : Word) → IsElement false (length generators) u
      → IsNumberBelow (length generators) equal (value_by product generators unused)
      (length t.words) (word_at t) (number_in t u) u

-- two words are related exactly where their numbers are of one class, and each class is named by
-- its least number
pub record AreClassesOf {V : Type 0} (product : V → V → V) (equal : V → V → Bool)
    (generators : List V) (unused : V) (kind : Kind) (pairs : List (Word × Word))
    (t : CayleyTables) (classes : List ℕ) : Type 0 where
  pub count : length classes ≡ length t.words
  pub related : (u v : Word)
      → IsElement false (length generators) u → IsElement false (length generators) v
      → SameElement (length generators) equal (value_by product generators unused) kind pairs u v
      ↔ (slice_index classes (number_in t u) ≡ slice_index classes (number_in t v))
  pub own : (i : ℕ) → i < length t.words
      → slice_index classes (slice_index classes i) ≡ slice_index classes i
  pub least : (i j : ℕ) → i < length t.words → j < length t.words
      → slice_index classes i ≡ slice_index classes j → slice_index classes i ≤ j
