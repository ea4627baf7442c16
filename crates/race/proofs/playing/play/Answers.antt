use Rattle.race.proofs.Plays.{starts_sound, play_more, play_few, play_ends, play_as}
use Rattle.race.proofs.Telling.{tells}
use Rattle.race.specs.Machine.{state_at}
use Rattle.race.proofs.playing.play.Goals as goal

pub follow-requires-clause-sound : goal.follow-requires-clause-sound
follow-requires-clause-sound g c = let r = g.R.Racer in starts_sound r c.args.lanes.now.items c.requires.running

pub loop-preserved : goal.loop-preserved
loop-preserved g c =
    let r = g.R.Racer in
    play_more r c.args.schedule.now.items (state_at 0 c.args.lanes.now.items) (state_at c.loop.word c.loop.lanes.items) (state_at c.round.new.word c.round.new.lanes.items) c.loop.invariant c.round.ensures.goes

pub outcome_at-requires : goal.outcome_at-requires
outcome_at-requires g c =
    let r = g.R.Racer in
    let a = play_more r c.args.schedule.now.items (state_at 0 c.args.lanes.now.items) (state_at c.loop.word c.loop.lanes.items) (state_at c.round.new.word c.round.new.lanes.items) c.loop.invariant c.round.ensures.goes in
    play_few r c.args.schedule.now.items (state_at 0 c.args.lanes.now.items) (state_at c.round.new.word c.round.new.lanes.items) a c.requires.count.1

pub returns : goal.returns
returns g c =
    let r = g.R.Racer in
    let a = play_more r c.args.schedule.now.items (state_at 0 c.args.lanes.now.items) (state_at c.loop.word c.loop.lanes.items) (state_at c.round.new.word c.round.new.lanes.items) c.loop.invariant c.round.ensures.goes in
    let end = rw c.loop-test.false at c.round.ensures.nearer in
    let is = rw c.as_slice-2.ensures.value at c.outcome_at.ensures in
    let e = play_as r c.args.schedule.now.items (state_at 0 c.args.lanes.now.items) c.round.new.word c.round.new.lanes.items c.outcome_at.result a end is in
    record {
      plays = play_ends r c.args.schedule.now.items (state_at 0 c.args.lanes.now.items) c.round.new.word c.round.new.lanes.items c.outcome_at.result a end is;
      ends = e;
      told = tells r c.args.lanes.now.items c.outcome_at.result c.round.new.lanes.items e;
    }
