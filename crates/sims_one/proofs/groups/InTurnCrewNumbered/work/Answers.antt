use Rattle.std.proofs.Common.{◌-◌, get_or, ap, arith}
use Rattle.sims_one.proofs.PartLaws.{none_ran, one_ran}
use Rattle.sims_one.proofs.groups.InTurnCrewNumbered.work.Goals as goal

pub loop-i-init : goal.loop-i-init
loop-i-init g c = none_ran g.P.Part c.args.group.now c.requires

pub returns-then-not-numbered : goal.returns-then-not-numbered
returns-then-not-numbered g c =
    one_ran g.P.Part c.args.group.now c.loop-i.group (c.loop-i.i - 1) (get_or c.loop-i.group (c.loop-i.i - 1) c.index-group-i.result) c.run.new.self c.loop-i.invariant (omega arith) (ap (λ x. get_or c.loop-i.group (c.loop-i.i - 1) x) c.index-group-i.is) c.run.ensures

pub loop-i-preserved : goal.loop-i-preserved
loop-i-preserved g c =
    one_ran g.P.Part c.args.group.now c.loop-i.group (c.loop-i.i - 1) (get_or c.loop-i.group (c.loop-i.i - 1) c.index-group-i.result) c.run.new.self c.loop-i.invariant (omega arith) (ap (λ x. get_or c.loop-i.group (c.loop-i.i - 1) x) c.index-group-i.is) c.run.ensures
