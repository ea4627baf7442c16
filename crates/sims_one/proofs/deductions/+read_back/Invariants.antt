use Rattle.std.proofs.Common.{◌≡◌, true}
use Rattle.sims_one.specs.Known.{Keeps}
use Rattle.sims_one.proofs.deductions.+read_back.Given as goal

abbrev pub decreases-read_back : goal.decreases-read_back
decreases-read_back l = l.count

abbrev pub invariant-loop-start : goal.invariant-loop-start
invariant-loop-start l = record {
  nodes : l.known.nodes ≡ l.initial.known.nodes;
  keeps : Keeps l.presentation.presentation l.initial.known l.known true;
}

abbrev pub decreases-loop-start : goal.decreases-loop-start
decreases-loop-start l = l.starts.bits
