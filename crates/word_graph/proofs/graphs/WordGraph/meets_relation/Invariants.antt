use Rattle.std.proofs.Common.{◌≡◌, ℕ, ◌<◌}
use Rattle.theory.specs.Graph.{path}
use Rattle.word_graph.proofs.graphs.WordGraph.meets_relation.Given as goal

abbrev pub invariant-loop-node : goal.invariant-loop-node
invariant-loop-node l = (n : ℕ) → n < l.node → path l.self n l.left ≡ path l.self n l.right
