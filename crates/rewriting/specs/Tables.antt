-- The table of an automaton: rows of states and of ends.
use Rattle.std.specs.Prelude.{◌≡◌, ℕ, ◌<◌, ◌≤◌, List, [], length, map, slice_index_or, Option, None, Some}
use Rattle.std.specs.List.{range_with_len}
use Rattle.theory.specs.Word.{Word}
use Rattle.theory.specs.Graph.{Graph, IsComplete, target}
use Rattle.cells.specs.Rows.{AreRows}
use Rattle.rewriting.specs.Rules.{AreOver}
use Rattle.rewriting.specs.States.{AreStates}
use Rattle.rewriting.specs.Tries.{IsStateWord, Reads, longer, state_at, words_of}
use Rattle.rewriting.specs.declared.tries.Prefix.{Prefix}

-- a table: the states as prefixes of left sides, and for each state and letter a state and an end
pub record Moves : Type 0 where
  pub letters : ℕ
  pub prefixes : List Prefix
  pub targets : Graph
  pub ends : Graph

-- no edge leads to where a left side ends
abbrev pub move_by : Option ℕ → Option ℕ → Option ℕ
move_by None to = to
move_by (Some number) to = None

-- where a state and a letter lead
abbrev pub move : Moves → ℕ → ℕ → Option ℕ
move m node letter = move_by (target m.ends node letter) (target m.targets node letter)

-- the table as a graph
abbrev pub edges : Moves → Graph
edges m = map (λ node. map (λ letter. move m node letter) (range_with_len 0 m.letters))
    (range_with_len 0 (length m.prefixes))

-- a row for each state, and numbers of states in the rows
pub record IsTable (m : Moves) : Type 0 where
  pub some : 0 < length m.prefixes
  pub few : m.letters ≤ 256
  pub target_rows : AreRows (length m.prefixes) m.letters m.targets
  pub end_rows : AreRows (length m.prefixes) m.letters m.ends
  pub within : (n a : ℕ) → state_at m.targets n a < length m.prefixes

-- the states of rules: the empty word first, and the proper prefixes of the left sides, each once,
-- and no other word
pub record IsStateList (rules : List (Word × Word)) (states : List Word) : Type 0 where
  pub are : AreStates rules states
  pub distinct : (i j : ℕ) → i < length states → j < length states
      → slice_index_or states i [] ≡ slice_index_or states j [] → i ≡ j
  pub only : (n : ℕ) → n < length states → IsStateWord rules (slice_index_or states n [])

-- the table of the states of rules
pub record IsTableOf (k : ℕ) (rules : List (Word × Word)) (m : Moves) : Type 0 where
  pub letters : m.letters ≡ k
  pub over : AreOver k rules
  pub states : IsStateList rules (words_of rules m.prefixes)
  pub reads : (n a : ℕ) → n < length m.prefixes → a < k
      → Reads rules (words_of rules m.prefixes) (longer (words_of rules m.prefixes) n a)
      (state_at m.targets n a) (target m.ends n a)
  pub full : IsComplete k m.targets
