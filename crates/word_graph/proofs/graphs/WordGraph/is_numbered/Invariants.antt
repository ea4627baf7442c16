use Rattle.std.proofs.Common.{◌≡◌}
use Rattle.theory.specs.LowIndex.{Rows, graph_of}
use Rattle.word_graph.specs.Numbered.{IsSeenTo}
use Rattle.word_graph.proofs.graphs.WordGraph.is_numbered.Given as goal

abbrev pub invariant-loop-node : goal.invariant-loop-node
invariant-loop-node l = (rows : Rows) → l.self ≡ graph_of rows → IsSeenTo rows l.node l.seen
