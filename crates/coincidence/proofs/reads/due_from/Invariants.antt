use Rattle.coincidence.proofs.DueLaws.{IsQuiet}
use Rattle.coincidence.proofs.reads.due_from.Given as goal

abbrev pub invariant-loop-i : goal.invariant-loop-i
invariant-loop-i l = IsQuiet l.edges.graph l.node l.pairs l.i
