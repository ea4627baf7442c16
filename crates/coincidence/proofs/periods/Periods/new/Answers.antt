use Rattle.std.proofs.Common.{◌≡◌, ◌<◌, length, arith}
use Rattle.coincidence.proofs.UsesLaws.{periods_step, periods_end}
use Rattle.coincidence.proofs.periods.Periods.new.Goals as goal

pub loop-number-preserved : goal.loop-number-preserved
loop-number-preserved c =
    let less : c.loop-number.number < length c.args.pairs.now = omega arith in
    periods_step c.args.second c.args.pairs.now c.loop-number.counts.items c.push.new.self.items c.loop-number.number c.pair.result.now c.side.result.now c.period.result
    less c.pair.ensures c.side.ensures (record { within = c.period.ensures.within; some = c.period.ensures.some; stays = c.period.ensures.turned }) c.in_ok-push.ensures.items c.loop-number.invariant

pub returns : goal.returns
returns c =
    let end : c.loop-number.number ≡ length c.args.pairs.now = omega arith in
    periods_end c.args.second c.args.pairs.now c.loop-number.counts.items c.loop-number.number end c.loop-number.invariant
