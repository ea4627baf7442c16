use Rattle.std.proofs.Common.{◌<◌}
use Rattle.sims_one.specs.declared.paths.TheConstants.{MOST_NODES}
use Rattle.sims_one.proofs.known.Known.go_on.Given as goal

abbrev pub invariant-loop-i : goal.invariant-loop-i
invariant-loop-i l = l.at < MOST_NODES
