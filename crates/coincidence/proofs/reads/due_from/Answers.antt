use Rattle.std.proofs.Common.{◌<◌, length, arith}
use Rattle.coincidence.proofs.DueLaws.{quiet_more, quiet_closed, pair_contained}
use Rattle.coincidence.proofs.HoldLaws.{held_quiet}
use Rattle.coincidence.proofs.ReadLaws.{at_found}
use Rattle.coincidence.proofs.reads.due_from.Goals as goal

pub loop-i-preserved : goal.loop-i-preserved
loop-i-preserved c =
    let less : c.loop-i.i < length c.args.pairs.now = omega arith in
    quiet_more c.args.edges.now.graph c.args.node c.args.pairs.now c.loop-i.i c.pair-pair.result.now less c.pair-pair.ensures c.in-Nothing.ensures.0 c.in-Nothing.ensures.1 c.loop-i.invariant

pub returns : goal.returns
returns c =
    quiet_closed c.args.edges.now.graph c.args.node c.args.pairs.now (λ k d h. c.loop-i.invariant k d (omega (arith, h)))

pub loop-i-init : goal.loop-i-init
loop-i-init c = held_quiet c.args.pairs.now c.args.edges.now.graph c.args.node c.args.place c.requires

pub returns-in_default : goal.returns-in_default
returns-in_default c =
    let less : c.loop-i.i < length c.args.pairs.now = omega arith in
    at_found c.args.edges.now.graph c.args.node c.args.pairs.now c.pair-pair.result.now c.due_both.result (λ e. c.in_default.not-Nothing e)
    (pair_contained c.args.pairs.now c.loop-i.i c.pair-pair.result.now less c.pair-pair.ensures) c.due_both.ensures
