use Rattle.std.proofs.Common.{◌≡◌, ◌<◌, true}
use Rattle.sims_one.specs.declared.paths.TheConstants.{MOST_NODES}
use Rattle.sims_one.specs.Known.{Keeps}
use Rattle.sims_one.proofs.deductions.read_edge.Given as goal

abbrev pub invariant-loop-place : goal.invariant-loop-place
invariant-loop-place l = record {
  nodes : l.known.nodes ≡ l.initial.known.nodes;
  keeps : Keeps l.presentation.presentation l.initial.known l.known true;
  end : l.end.node < MOST_NODES;
}
