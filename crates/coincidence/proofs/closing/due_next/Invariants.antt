use Rattle.std.proofs.Common.{length}
use Rattle.coincidence.specs.Pending.{IsClosedBut}
use Rattle.coincidence.specs.Seen.{HoldWhereSeen}
use Rattle.coincidence.proofs.closing.due_next.Given as goal

abbrev pub invariant-loop-entry : goal.invariant-loop-entry
invariant-loop-entry l = record {
  closed : IsClosedBut l.congruence.congruence.presentation.relations l.edges.graph l.live.items l.pending;
  seen : HoldWhereSeen l.congruence.congruence.presentation.relations l.edges.graph l.seen;
}

abbrev pub decreases-loop-entry : goal.decreases-loop-entry
decreases-loop-entry l = length l.pending
