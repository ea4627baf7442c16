use Rattle.std.proofs.Common.{[]}
use Rattle.sims_one.specs.Asked.{asked}
use Rattle.sims_one.specs.Fronts.{lists_in}
use Rattle.sims_one.proofs.CutLaws.{AreSplit}
use Rattle.sims_one.proofs.cut.first_fronts.Given as goal

abbrev pub invariant-loop-target : goal.invariant-loop-target
invariant-loop-target l = AreSplit (asked l.request) [] l.target (lists_in l.fronts.items)
