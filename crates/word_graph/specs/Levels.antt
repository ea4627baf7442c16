-- Walks over the nodes of a graph level by level, in the order of words that are read backwards.
use Rattle.std.specs.Prelude.{◌≡◌, ℕ, ◌+◌, ◌<◌, ◌≤◌, List, [], ◌∷◌, ◌++◌, ◌⊎◌, length, reverse, Option, Some}
use Rattle.theory.specs.Word.{Word}
use Rattle.theory.specs.ShortLex.{◌≺◌}
use Rattle.theory.specs.Graph.{Graph, target}
use Rattle.word_graph.specs.Walk.{NoLater, IsBefore, Walked, IsTree}
use Rattle.word_graph.specs.Gaps.{count_none}
use Rattle.word_graph.specs.Steps.{walked}
use Rattle.word_graph.specs.declared.walks.Step.{Step}

-- how far a walk has come in a level, whose places begin at `from` and end before `to`: edges by
-- letters before `letter` are done, and those by `letter` from places before `place`
pub record Frontier : Type 0 where
  pub from : ℕ
  pub to : ℕ
  pub letter : ℕ
  pub place : ℕ

-- in the level from one place to another, at a letter and a place
abbrev pub frontier_at : ℕ → ℕ → ℕ → ℕ → Frontier
frontier_at from to a i = record { from = from; to = to; letter = a; place = i }

-- the edge by the letter b from the place p is done: p stands before the level, or in it, and then
-- b before the next letter, or p before the next place at the same letter
abbrev pub IsDone : Frontier → ℕ → ℕ → Type 0
IsDone at p b = (p < at.from) ⊎ ((p < at.to) × IsBefore b p at.letter at.place)

-- all is found that edges lead to from places before the level, and those of its own that are done
pub record IsLevelWalk (k : ℕ) (g : Graph) (w : Walked) (at : Frontier) : Type 0 where
  pub depth : ℕ
  pub within : at.to ≤ w.count
  pub before : (j : ℕ) → j < at.to → length (w.word j) ≤ depth
  pub level : (j : ℕ) → at.from ≤ j → j < at.to → length (w.word j) ≡ depth
  pub next : (j : ℕ) → at.to ≤ j → j < w.count
      → (length (w.word j) ≡ depth + 1) × IsBefore (w.letter j) (w.parent j) at.letter at.place
  pub tree : IsTree k g w
  pub ascending : (j l : ℕ) → j < l → l < w.count → reverse (w.word j) ≺ reverse (w.word l)
  pub found : (p b m : ℕ) → IsDone at p b → target g (w.node p) b ≡ Some m
      → (j : ℕ) × (w.place m ≡ Some j)
      × NoLater (reverse (w.word j)) (reverse (w.word p ++ b ∷ []))

-- steps and places are such a walk, and each step took one place
pub record IsLevelledTo (k : ℕ) (g : Graph) (steps : List Step) (places : List (Option ℕ))
    (at : Frontier) : Type 0 where
  pub word : ℕ → Word
  pub walk : IsLevelWalk k g (walked steps places word) at
  pub shape : length places ≡ length g
  pub left : count_none places + length steps ≡ length g

-- a level begins, of all places from this on
abbrev pub IsLevelledBefore : ℕ → Graph → List Step → List (Option ℕ) → ℕ → Type 0
IsLevelledBefore k g steps places from =
    IsLevelledTo k g steps places (frontier_at from (length steps) 0 from)
