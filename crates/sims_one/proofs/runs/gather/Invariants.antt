use Rattle.std.proofs.Common.{length}
use Rattle.sims_one.proofs.PartLaws.{Gathering}
use Rattle.sims_one.proofs.runs.gather.Given as goal

abbrev pub invariant-loop-numbered : goal.invariant-loop-numbered
invariant-loop-numbered g l = Gathering l.fn.groups.items l.all_ran l.groups l.parts

abbrev pub decreases-loop-numbered : goal.decreases-loop-numbered
decreases-loop-numbered g l = length l.groups.items
