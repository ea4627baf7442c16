use Rattle.std.proofs.Common.{◌≤◌}
use Rattle.sims_one.proofs.known.Known.go_back.Given as goal

abbrev pub invariant-loop-length : goal.invariant-loop-length
invariant-loop-length l = l.length ≤ l.count

abbrev pub decreases-loop-length : goal.decreases-loop-length
decreases-loop-length l = l.length
