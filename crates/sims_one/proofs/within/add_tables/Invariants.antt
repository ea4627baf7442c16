use Rattle.std.proofs.Common.{◌≤◌, ℕ, List, length}
use Rattle.sims_one.specs.Asked.{asked}
use Rattle.sims_one.specs.Fronts.{lists_in}
use Rattle.sims_one.proofs.RankLaws.{rank}
use Rattle.sims_one.proofs.WantedLaws.{AreListed}
use Rattle.sims_one.proofs.within.add_tables.Given as goal

abbrev pub invariant-loop-branch : goal.invariant-loop-branch
invariant-loop-branch l = record {
  last : List ℕ;
  listed : AreListed (asked l.request) l.front (lists_in l.tables.items) last l.branch.targets.items l.branch.levels;
  few : length l.tables.items ≤ l.request.count;
}

abbrev pub decreases-loop-branch : goal.decreases-loop-branch
decreases-loop-branch l = rank 901 l.branch.targets.items
