use Rattle.std.proofs.Common.{◌≡◌, ◌+◌, ◌-◌, ◌*◌, length}
use Rattle.sims_one.specs.Known.{IsBranch}
use Rattle.sims_one.proofs.SearchLaws.{NoneBetween}
use Rattle.sims_one.proofs.search.+search.Given as goal

abbrev pub decreases-search : goal.decreases-search
decreases-search l = 3 * (l.presentation.now.presentation.letters * 17 - length l.branch.now.targets.items) + 2

abbrev pub decreases-search_from : goal.decreases-search_from
decreases-search_from l = 3 * (l.presentation.now.presentation.letters * 17 - length l.branch.now.targets.items) + 1

abbrev pub decreases-search_with : goal.decreases-search_with
decreases-search_with l = 3 * (l.presentation.now.presentation.letters * 17 - length l.branch.now.targets.items)

abbrev pub invariant-search_from-loop-target : goal.invariant-search_from-loop-target
invariant-search_from-loop-target l = record {
  same : l.branch.targets.items ≡ l.initial.branch.targets.items;
  branch : IsBranch l.presentation.presentation l.classes l.branch.targets.items l.branch.levels;
  none : NoneBetween l.presentation.presentation l.classes l.initial.branch.targets.items l.first l.target;
}
