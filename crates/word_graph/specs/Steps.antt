-- Walks as the code keeps them.
use Rattle.std.specs.Prelude.{◌≡◌, ℕ, ◌+◌, List, [], ◌∷◌, ◌++◌, length, slice_index_or, cond, nat_lt, Option, None}
use Rattle.theory.specs.Word.{Word}
use Rattle.theory.specs.Graph.{Graph}
use Rattle.word_graph.specs.Walk.{Walked, IsWalkTo}
use Rattle.word_graph.specs.Gaps.{count_none}
use Rattle.word_graph.specs.declared.walks.Step.{Step}

-- the step at a place
abbrev pub step_at : List Step → ℕ → Step
step_at steps j = slice_index_or steps j (record { node = 0; parent = 0; letter = 0 })

-- what the steps and places found
abbrev pub walked : List Step → List (Option ℕ) → (ℕ → Word) → Walked
walked steps places word =
    record {
      count = length steps;
      node = λ j. (step_at steps j).node;
      parent = λ j. (step_at steps j).parent;
      letter = λ j. (step_at steps j).letter;
      word = word;
      place = λ m. slice_index_or places m None;
    }

-- they are a walk to the row i and letter a, and each step took one place
pub record IsWalkedTo (k : ℕ) (g : Graph) (steps : List Step) (places : List (Option ℕ))
    (i a : ℕ) : Type 0 where
  pub word : ℕ → Word
  pub walk : IsWalkTo k g (walked steps places word) i a
  pub shape : length places ≡ length g
  pub left : count_none places + length steps ≡ length g

-- the word of a step behind the words of the steps before it
abbrev pub next_word : List Word → Step → Word
next_word words s =
    cond (nat_lt s.parent (length words)) (slice_index_or words s.parent [] ++ s.letter ∷ []) []

-- the words of steps behind words
abbrev pub words_behind : List Word → List Step → List Word
words_behind words [] = words
words_behind words (s ∷ ss) = words_behind (words ++ next_word words s ∷ []) ss

-- the words of steps
abbrev pub words_of : List Step → List Word
words_of = words_behind []
