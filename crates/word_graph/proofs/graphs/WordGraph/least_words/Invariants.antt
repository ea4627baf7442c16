use Rattle.word_graph.proofs.WordLaws.{IsListTo}
use Rattle.word_graph.proofs.graphs.WordGraph.least_words.Given as goal

abbrev pub invariant-loop-node : goal.invariant-loop-node
invariant-loop-node l = IsListTo l.self l.least.items l.node
