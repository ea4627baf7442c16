-- Reduced rules from a list of classes (Froidure and Pin 1997).
use Rattle.std.specs.Prelude.{◌≡◌, ℕ, ◌<◌, ◌⊎◌, List, [], ◌∷◌, ◌++◌, drop, Contains, Option, None, MatchOption}
use Rattle.theory.specs.Word.{Word, IsOver}
use Rattle.theory.specs.ShortLex.{◌≺◌}
use Rattle.theory.specs.Listing.{IsAscending}
use Rattle.theory.specs.Class.{RuleBefore}
use Rattle.word_graph.specs.Walk.{IsBefore}
use Rattle.congruence_classes.specs.ClassLists.{ClassList}

-- the word of the place of a word
abbrev pub normal_of : ClassList → Word → Word
normal_of list u = list.word (list.place u)

-- it comes before the word
abbrev pub Falls : ClassList → Word → Type 0
Falls list u = normal_of list u ≺ u

-- the place of the word of a place with a letter behind it
abbrev pub step : ClassList → ℕ → ℕ → ℕ
step list place letter = list.place (list.word place ++ letter ∷ [])

-- the place of the word of a place without its first letter
abbrev pub rest_place : ClassList → ℕ → ℕ
rest_place list place = list.place (drop 1 (list.word place))

-- the word of one place is that of another with a letter behind it
abbrev pub GoesOn : ClassList → ℕ → ℕ → ℕ → Type 0
GoesOn list place letter target = list.word target ≡ list.word place ++ letter ∷ []

-- a word that is not that of its place falls, and the words of places without their first letters
-- are the words of their places
pub record IsReducedList (list : ClassList) : Type 0 where
  pub root : list.word 0 ≡ []
  pub falls : (u : Word) → IsOver list.letters u → (u ≡ [] → ⊥)
      → (normal_of list u ≡ u) ⊎ Falls list u
  pub rests : (i : ℕ) → i < list.count → list.word (rest_place list i) ≡ drop 1 (list.word i)

-- the left side is the word of a place with the letter behind it; it falls to the right side, and
-- without its first letter does not fall
pub record IsRuleAt (list : ClassList) (place letter : ℕ) (rule : Word × Word) : Type 0 where
  pub left : rule.0 ≡ list.word place ++ letter ∷ []
  pub right : rule.1 ≡ normal_of list rule.0
  pub falls : rule.1 ≺ rule.0
  pub rest : Falls list (drop 1 rule.0) → ⊥

-- the rule of the place and the letter, where there is one
abbrev pub IsRuleOf : ClassList → ℕ → ℕ → Option (Word × Word) → Type 0
IsRuleOf list place letter found =
    MatchOption found ((rule : Word × Word) → IsRuleAt list place letter rule → ⊥)
    (IsRuleAt list place letter)

-- the rules of the places before i and all letters, and of the place i and the letters before a, in
-- order
pub record AreRulesTo (list : ClassList) (i a : ℕ) (rules : List (Word × Word)) : Type 0 where
  pub sound : (rule : Word × Word)
      → Contains rules rule
      → (j b : ℕ) × IsBefore j b i a × (j < list.count) × (b < list.letters)
      × IsRuleAt list j b rule
  pub all : (j b : ℕ) (rule : Word × Word)
      → IsBefore j b i a → j < list.count → b < list.letters → IsRuleAt list j b rule
      → Contains rules rule
  pub ascending : IsAscending RuleBefore None rules
