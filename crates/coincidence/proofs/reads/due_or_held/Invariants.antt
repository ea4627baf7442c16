use Rattle.std.proofs.Common.{◌-◌, length}
use Rattle.coincidence.specs.Holding.{HoldBefore}
use Rattle.coincidence.proofs.reads.due_or_held.Given as goal

abbrev pub invariant-loop-held : goal.invariant-loop-held
invariant-loop-held l = HoldBefore l.pairs l.edges.graph l.node l.held

abbrev pub decreases-loop-held : goal.decreases-loop-held
decreases-loop-held l = length l.pairs - l.held
