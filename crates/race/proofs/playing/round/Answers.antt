use Rattle.std.proofs.Common.{arith}
use Rattle.race.proofs.Plays.{count_next, round_next, round_end}
use Rattle.race.specs.Machine.{state_at}
use Rattle.race.proofs.playing.round.Goals as goal
use Rattle.race.proofs.playing.round.Goals.{then-turn_at, else-turn_at}

pub loop-number-preserved : goal.loop-number-preserved
loop-number-preserved g c =
    let r = g.R.Racer in
    let old = state_at c.args.word.now c.args.lanes.now.items in
    let now = state_at c.loop-number.word c.loop-number.lanes.items in
    let new = state_at c.turn_at.new.word c.turn_at.new.lanes.items in
    let more = round_next r c.loop-number.any_ran c.turn_at.result c.loop-number.number old.lanes now.lanes new.lanes c.loop-number.invariant.1 c.turn_at.ensures.nearer in (
      count_next r c.loop-number.number old now new c.loop-number.invariant.0 c.turn_at.ensures.goes,
      elim c.if-turn_at.branch [ then-turn_at w ↦ rw w.any_ran-is (rw w.if-turn_at.true at more) | else-turn_at w ↦ rw w.any_ran-is (rw w.if-turn_at.false at more) ],
    )

pub returns-clause-nearer : goal.returns-clause-nearer
returns-clause-nearer g c =
    let r = g.R.Racer in
    round_end r c.loop-number.any_ran c.loop-number.number c.loop-number.word c.args.lanes.now.items c.loop-number.lanes.items (omega arith) c.loop-number.invariant.1
