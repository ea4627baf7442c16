-- Reduced words, and the automaton that reads them (Sims 1994, 3.5).
use Rattle.std.specs.Prelude.{◌≡◌, ◌↔◌, ℕ, ◌+◌, ◌<◌, ◌≤◌, Bool, true, false, List, length, slice_index_or, Option, None, Some}
use Rattle.theory.specs.Word.{Word, IsOver}
use Rattle.theory.specs.Completion.{IsReduced, Listed}
use Rattle.theory.specs.Graph.{Graph, IsGraph, target}
use Rattle.word_graph.specs.Gaps.{count_none}
use Rattle.rewriting.specs.States.{HasEnd, IsLongest}
use Rattle.rewriting.specs.Tables.{IsTableOf, Moves, edges}
use Rattle.rewriting.specs.Tries.{words_of}
use Rattle.reduced_automaton.specs.Paths.{GoesOn, HasPath, all_paths}

-- words over so many letters, rules for them, the states by which they are read, and the graph of
-- where each state and letter lead
pub record Reading : Type 0 where
  pub letters : ℕ
  pub rules : List (Word × Word)
  pub states : List Word
  pub graph : Graph

-- a word over the letters to which no rule applies
pub record IsReducedWord (a : Reading) (u : Word) : Type 0 where
  pub over : IsOver a.letters u
  pub reduced : IsReduced (Listed a.rules) u

-- where u leads: nowhere if a left side stands at its end, and else to the longest state that does
abbrev pub Leads : List (Word × Word) → List Word → Word → Option ℕ → Type 0
Leads rules states u None = HasEnd rules u
Leads rules states u (Some place) = (HasEnd rules u → ⊥) × IsLongest states u place

-- each reduced word has a path from the root of the graph, and no other word
pub record IsReader (k : ℕ) (rules : List (Word × Word)) (g : Graph) : Type 0 where
  pub graph : IsGraph k g
  pub reads : (u : Word) → IsOver k u → HasPath (all_paths k g) 0 u ↔ IsReduced (Listed rules) u

-- the greatest length is at least n, or there is none
abbrev pub Allows : Option ℕ → ℕ → Type 0
Allows None n = Unit {0}
Allows (Some most) n = n ≤ most

-- the greatest length of a path from each node, where there is one
pub record AreDepths (k : ℕ) (g : Graph) (depths : List (Option ℕ)) : Type 0 where
  pub count : length depths ≡ length g
  pub depth : (node n : ℕ) → node < length g
      → GoesOn (all_paths k g) node n ↔ Allows (slice_index_or depths node None) n

-- the automaton of rules and their table
abbrev pub reading_of : List (Word × Word) → Moves → Reading
reading_of rules m = record {
  letters = m.letters;
  rules = rules;
  states = words_of rules m.prefixes;
  graph = edges m;
}

-- what an automaton holds
pub record IsAutomaton (rules : List (Word × Word)) (m : Moves)
    (most : List (Option ℕ)) : Type 0 where
  pub table : IsTableOf m.letters rules m
  pub reader : IsReader m.letters rules (edges m)
  pub depths : AreDepths m.letters (edges m) most

-- the edge of the letter a leads from the node to one whose depth allows n letters more
pub record LeadsBy (g : Graph) (depths : List (Option ℕ)) (node n a : ℕ) : Type 0 where
  pub next : ℕ
  pub is : target g node a ≡ Some next
  pub allows : Allows (slice_index_or depths next None) n

-- the edge of some letter does
abbrev pub LeadsOn : Graph → List (Option ℕ) → ℕ → ℕ → Type 0
LeadsOn g depths node n = (a : ℕ) × LeadsBy g depths node n a

-- a node before a round: without a depth it has a path of as many letters as the round's number,
-- and a depth is lower and right
abbrev pub IsSettled : ℕ → Graph → ℕ → ℕ → Option ℕ → Type 0
IsSettled k g round node None = GoesOn (all_paths k g) node round
IsSettled k g round node (Some most) = (most < round) × GoesOn (all_paths k g) node most
    × (GoesOn (all_paths k g) node (most + 1) → ⊥)

-- the depths before a round
pub record AreSettled (k : ℕ) (g : Graph) (round : ℕ) (depths : List (Option ℕ)) : Type 0 where
  pub count : length depths ≡ length g
  pub at : (node : ℕ) → node < length g → IsSettled k g round node (slice_index_or depths node None)

-- the depths within a round, when the nodes below this one are done
pub record AreSettledTo (k : ℕ) (g : Graph) (round done : ℕ)
    (depths : List (Option ℕ)) : Type 0 where
  pub count : length depths ≡ length g
  pub before : (node : ℕ) → node < done → node < length g
      → IsSettled k g (round + 1) node (slice_index_or depths node None)
  pub behind : (node : ℕ) → done ≤ node → node < length g
      → IsSettled k g round node (slice_index_or depths node None)

-- where there was a change fewer nodes have no depth, and else all is as it was
abbrev pub IsChange : Bool → List (Option ℕ) → List (Option ℕ) → Type 0
IsChange true old new = count_none new < count_none old
IsChange false old new = new ≡ old
