use Rattle.std.proofs.Common.{◌<◌, length, arith}
use Rattle.coincidence.proofs.DueLaws.{pair_contained}
use Rattle.coincidence.proofs.HoldLaws.{held_and_asks, held_more}
use Rattle.coincidence.proofs.ReadLaws.{at_found}
use Rattle.coincidence.proofs.reads.due_or_held.Goals as goal

pub loop-held-preserved : goal.loop-held-preserved
loop-held-preserved c =
    let less : c.loop-held.held < length c.args.pairs.now = omega arith in
    held_more c.args.pairs.now c.args.edges.now.graph c.args.node c.loop-held.held c.pair.result.now less c.pair.ensures c.in-None.ensures c.loop-held.invariant

pub returns-in_default : goal.returns-in_default
returns-in_default c =
    let less : c.loop-held.held < length c.args.pairs.now = omega arith in
    record {
      held = held_and_asks c.args.pairs.now c.args.edges.now.graph c.args.node c.loop-held.held c.pair.result.now c.in-Some.due (λ e. c.in_default.not-Nothing e) less c.pair.ensures c.loop-held.invariant c.in-Some.ensures;
      due = λ not. at_found c.args.edges.now.graph c.args.node c.args.pairs.now c.pair.result.now c.in-Some.due not (pair_contained c.args.pairs.now c.loop-held.held c.pair.result.now less c.pair.ensures) c.in-Some.ensures;
    }
