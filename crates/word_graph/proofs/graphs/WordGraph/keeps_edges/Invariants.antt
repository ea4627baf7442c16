use Rattle.std.proofs.Common.{ℕ, ◌<◌}
use Rattle.theory.specs.Graph.{IsGraph}
use Rattle.word_graph.specs.TwoSided.{KeepsRow}
use Rattle.word_graph.proofs.graphs.WordGraph.keeps_edges.Given as goal

abbrev pub invariant-loop-node : goal.invariant-loop-node
invariant-loop-node l = (k : ℕ) → IsGraph k l.self → (node : ℕ) → node < l.node → KeepsRow k l.self l.images node
