use Rattle.std.proofs.Common.{◌≡◌, [], take, get_or}
use Rattle.theory.specs.LowIndex.{Rows, graph_of, IsNumberedFrom}
use Rattle.word_graph.specs.Numbered.{max_from}
use Rattle.word_graph.proofs.graphs.WordGraph.seen_in.Given as goal

abbrev pub invariant-loop-number : goal.invariant-loop-number
invariant-loop-number l = (rows : Rows) → l.self ≡ graph_of rows
    → IsNumberedFrom l.seen (take l.number (get_or rows l.node [])) × (l.greatest ≡ max_from l.seen (take l.number (get_or rows l.node [])))
