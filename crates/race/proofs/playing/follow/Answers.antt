use Rattle.race.proofs.Plays.{follow_next}
use Rattle.race.specs.Machine.{state_at}
use Rattle.race.proofs.playing.follow.Goals as goal

pub loop-number-preserved : goal.loop-number-preserved
loop-number-preserved g c =
    let r = g.R.Racer in
    follow_next r c.args.schedule.now c.loop-number.number-index
    (state_at c.args.word.now c.args.lanes.now.items) (state_at c.loop-number.word c.loop-number.lanes.items) (state_at c.turn_at.new.word c.turn_at.new.lanes.items)
    c.loop-number-test.true c.loop-number.invariant c.turn_at.ensures.goes
