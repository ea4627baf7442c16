use Rattle.std.proofs.Common.{◌≡◌, true}
use Rattle.sims_one.specs.Known.{Keeps}
use Rattle.sims_one.proofs.deductions.read_edges.Given as goal

abbrev pub invariant-loop-number : goal.invariant-loop-number
invariant-loop-number l = record {
  nodes : l.known.nodes ≡ l.initial.known.nodes;
  keeps : Keeps l.presentation.presentation l.initial.known l.known true;
}
