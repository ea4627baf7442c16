use Rattle.std.proofs.Common.{ℕ, ◌<◌}
use Rattle.word_graph.specs.TwoSided.{KeepsEdge}
use Rattle.word_graph.proofs.graphs.WordGraph.keeps_row.Given as goal

abbrev pub invariant-loop-number : goal.invariant-loop-number
invariant-loop-number l = (letter : ℕ) → letter < l.number → KeepsEdge l.self l.images l.node letter
