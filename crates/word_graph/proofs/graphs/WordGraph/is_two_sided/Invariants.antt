use Rattle.std.proofs.Common.{ℕ, ◌<◌, length}
use Rattle.theory.specs.Graph.{IsCompleteTable}
use Rattle.word_graph.specs.Steps.{IsWalkedTo}
use Rattle.word_graph.specs.TwoSided.{word_of, AgreesBehind}
use Rattle.word_graph.proofs.graphs.WordGraph.is_two_sided.Given as goal

abbrev pub invariant-loop-number : goal.invariant-loop-number
invariant-loop-number l = (k : ℕ) (walk : IsWalkedTo k l.self l.walk.steps.items l.walk.places.items (length l.walk.steps.items) 0)
    → IsCompleteTable k l.self → (first : ℕ) → first < k → first < l.number
    → AgreesBehind k l.self (word_of l.walk.places.items walk.word) first
