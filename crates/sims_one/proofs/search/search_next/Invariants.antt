use Rattle.std.proofs.Common.{length, ◌≤◌}
use Rattle.sims_one.specs.Targets.{IsWithin}
use Rattle.sims_one.specs.Known.{IsBranch}
use Rattle.sims_one.specs.Search.{NoneFrom}
use Rattle.sims_one.proofs.search.search_next.Given as goal

abbrev pub invariant-loop-branch : goal.invariant-loop-branch
invariant-loop-branch l = record {
  within : IsWithin l.branch.targets.items l.initial.branch.targets.items;
  none : NoneFrom l.presentation.presentation l.classes l.initial.branch.targets.items l.branch.targets.items;
  kept : l.kept ≤ length l.branch.targets.items;
  branch : IsBranch l.presentation.presentation l.classes l.branch.targets.items l.branch.levels;
}

abbrev pub decreases-loop-branch : goal.decreases-loop-branch
decreases-loop-branch l = length l.branch.targets.items
