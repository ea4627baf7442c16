use Rattle.coincidence.specs.Seen.{HoldWhereSeen}
use Rattle.coincidence.proofs.StartLaws.{AreQuietBut}
use Rattle.coincidence.proofs.reads.due_in_mask.Given as goal

abbrev pub invariant-loop-number : goal.invariant-loop-number
invariant-loop-number l = record {
  quiet : AreQuietBut l.edges.graph l.begun.pairs.now l.node l.mask l.left;
  seen : HoldWhereSeen l.begun.pairs.now l.edges.graph l.seen;
}

abbrev pub decreases-loop-number : goal.decreases-loop-number
decreases-loop-number l = l.left
