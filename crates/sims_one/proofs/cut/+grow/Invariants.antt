use Rattle.std.proofs.Common.{◌≡◌, ◌+◌, ◌*◌}
use Rattle.sims_one.specs.Known.{IsBranch}
use Rattle.sims_one.specs.Asked.{asked}
use Rattle.sims_one.specs.Fronts.{lists_in}
use Rattle.sims_one.proofs.CutLaws.{HasSplit}
use Rattle.sims_one.proofs.cut.+grow.Given as goal

abbrev pub decreases-grow : goal.decreases-grow
decreases-grow l = 2 * l.depth + 1

abbrev pub decreases-grow_with : goal.decreases-grow_with
decreases-grow_with l = 2 * l.depth + 2

abbrev pub invariant-grow-loop-target : goal.invariant-grow-loop-target
invariant-grow-loop-target l = record {
  same : l.branch.targets.items ≡ l.initial.branch.targets.items;
  branch : IsBranch l.request.presentation.now.presentation l.request.classes l.branch.targets.items l.branch.levels;
  split : HasSplit (asked l.request) l.initial.branch.targets.items l.target (lists_in l.fn.fronts.items) (lists_in l.fronts.items);
}
