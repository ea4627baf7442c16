use Rattle.std.specs.List.{AllZip}
use Rattle.sims_one.specs.Parts.{Runs}
use Rattle.sims_one.proofs.groups.InTurnCrewNumbered.work.Given as goal

abbrev pub invariant-loop-i : goal.invariant-loop-i
invariant-loop-i g l = AllZip (Runs g.P.Part) l.fn.group l.group
