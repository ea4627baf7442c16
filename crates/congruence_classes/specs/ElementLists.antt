-- Classes of elements as a list (Froidure and Pin 1997; libsemigroups: Congruence over a
-- FroidurePin).
use Rattle.std.specs.Prelude.{◌≡◌, ℕ, zero, suc, ◌+◌, ◌<◌, ◌≤◌, ◌↔◌, false, List, [], ◌∷◌, length, slice_index}
use Rattle.theory.specs.Word.{Word, IsElement}
use Rattle.theory.specs.ShortLex.{◌≺◌}
use Rattle.froidure_pin.specs.declared.tables.CayleyTables.{CayleyTables}
use Rattle.cayley.specs.Tables.{FitTogether, number_in, word_at}
use Rattle.problem.specs.declared.kinds.Problem.{Problem}
use Rattle.problem.specs.Problem.{SameClassOf, count_of, has_empty_word}
use Rattle.congruence_classes.specs.ClassLists.{ClassList}

-- the relation on the elements over k letters is that of their classes, which are named by the
-- number of their least word
pub record AreClassesIn (R : Word → Word → Type 0) (k : ℕ) (t : CayleyTables) (classes : List ℕ)
    : Type 0 where
  pub fit : FitTogether t
  pub letters : length t.letters ≡ k
  pub count : length classes ≡ length t.words
  pub below : (i : ℕ) → i < length t.words → slice_index classes i ≤ i
  pub elements : (i : ℕ) → i < length t.words → IsElement false k (word_at t i)
  pub numbers : (i : ℕ) → i < length t.words → number_in t (word_at t i) ≡ i
  pub ascending : (i j : ℕ) → i < j → j < length t.words → word_at t i ≺ word_at t j
  pub least : (u : Word) → IsElement false k u → u ≺ word_at t (number_in t u) → ⊥
  pub within : (u : Word) → IsElement false k u → number_in t u < length t.words
  pub related : (u v : Word) → IsElement false k u → IsElement false k v
      → R u v ↔ (slice_index classes (number_in t u) ≡ slice_index classes (number_in t v))

-- the elements of the problem, where the empty word is none, are those of the tables, and the
-- classes are its
pub record AreClassesFor (p : Problem) (t : CayleyTables) (classes : List ℕ) : Type 0 where
  pub semigroup : has_empty_word p ≡ false
  pub classes_in : AreClassesIn (SameClassOf p) (count_of p) t classes

-- tables, numbers of theirs, and for each number a place
pub record PlacedTables : Type 0 where
  pub tables : CayleyTables
  pub roots : List ℕ
  pub places : List ℕ

-- the numbers are of the tables, and each number of the tables has the place of one; the word of a
-- number is not empty and leads to it
pub record HasPlaces (p : PlacedTables) : Type 0 where
  pub fit : FitTogether p.tables
  pub words : (i : ℕ) → i < length p.tables.words
      → (word_at p.tables i ≡ [] → ⊥) × (number_in p.tables (word_at p.tables i) ≡ i)
  pub numbers : (m : ℕ) → m < length p.roots → slice_index p.roots m < length p.tables.words
  pub count : length p.places ≡ length p.tables.words
  pub within : (i : ℕ) → i < length p.tables.words → slice_index p.places i < length p.roots

-- the empty word, and behind it the words of the numbers
abbrev pub element_word : CayleyTables → List ℕ → ℕ → Word
element_word t roots zero = []
element_word t roots (suc m) = word_at t (slice_index roots m)

-- the place of the number of a word, behind that of the empty word
abbrev pub element_place : CayleyTables → List ℕ → Word → ℕ
element_place t places [] = 0
element_place t places (a ∷ u) = slice_index places (number_in t (a ∷ u)) + 1

-- the words of the numbers, behind the empty word of the root
abbrev pub element_list : PlacedTables → ClassList
element_list p = record {
  letters = length p.tables.letters;
  count = length p.roots + 1;
  word = element_word p.tables p.roots;
  place = element_place p.tables p.places;
}
