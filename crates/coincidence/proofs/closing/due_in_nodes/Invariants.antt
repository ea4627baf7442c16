use Rattle.std.proofs.Common.{length}
use Rattle.coincidence.specs.Pending.{IsClosedBut}
use Rattle.coincidence.specs.Seen.{HoldWhereSeen}
use Rattle.coincidence.proofs.closing.due_in_nodes.Given as goal

abbrev pub invariant-loop-node : goal.invariant-loop-node
invariant-loop-node l = record {
  closed : IsClosedBut l.congruence.congruence.presentation.relations l.edges.graph l.live.items l.pending;
  seen : HoldWhereSeen l.congruence.congruence.presentation.relations l.edges.graph l.seen;
}

abbrev pub decreases-loop-node : goal.decreases-loop-node
decreases-loop-node l = length l.pending
