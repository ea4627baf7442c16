use Rattle.coincidence.proofs.HoldLaws.{AreTaken}
use Rattle.coincidence.proofs.pending.Worklist.take_unmarked.Given as goal

abbrev pub invariant-loop-node : goal.invariant-loop-node
invariant-loop-node l = AreTaken l.live.items l.marked.items l.self l.node
