use Rattle.std.proofs.Common.{take}
use Rattle.sims_one.specs.Asked.{asked}
use Rattle.sims_one.specs.Fronts.{lists_in, AreLonger}
use Rattle.sims_one.proofs.cut.split_all.Given as goal

abbrev pub invariant-loop-front : goal.invariant-loop-front
invariant-loop-front l = AreLonger (asked l.request) (take l.front-index (lists_in l.fronts)) (lists_in l.all.items)
