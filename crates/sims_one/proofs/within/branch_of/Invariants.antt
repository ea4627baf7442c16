use Rattle.std.proofs.Common.{◌≡◌, take}
use Rattle.sims_one.specs.Known.{IsBranch}
use Rattle.sims_one.proofs.within.branch_of.Given as goal

abbrev pub invariant-loop-target : goal.invariant-loop-target
invariant-loop-target l = record {
  same : l.branch.targets.items ≡ take l.target-index l.front;
  branch : IsBranch l.request.presentation.now.presentation l.request.classes l.branch.targets.items l.branch.levels;
}
