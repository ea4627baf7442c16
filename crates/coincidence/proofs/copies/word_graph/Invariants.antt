use Rattle.coincidence.proofs.CopyLaws.{IsCopiedTo}
use Rattle.coincidence.proofs.copies.word_graph.Given as goal

abbrev pub invariant-loop-number : goal.invariant-loop-number
invariant-loop-number l = IsCopiedTo l.letters l.edges.graph l.graph l.node l.number

abbrev pub invariant-loop-node : goal.invariant-loop-node
invariant-loop-node l = IsCopiedTo l.letters l.edges.graph l.graph l.node 0
