use Rattle.std.proofs.Common.{◌≢◌, ℕ, ◌<◌, None}
use Rattle.theory.specs.Graph.{target, IsGraph}
use Rattle.word_graph.proofs.graphs.WordGraph.is_complete.Given as goal

abbrev pub invariant-loop-node : goal.invariant-loop-node
invariant-loop-node l = (k n b : ℕ) → IsGraph k l.self → n < l.node → b < k → target l.self n b ≢ None
