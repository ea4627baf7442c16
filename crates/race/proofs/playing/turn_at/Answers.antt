use Rattle.std.proofs.Common.{arith}
use Rattle.race.proofs.Plays.{word_small, turned_here, nearer_here}
use Rattle.race.specs.Machine.{state_at}
use Rattle.race.proofs.playing.turn_at.Goals as goal

pub turn-requires : goal.turn-requires
turn-requires g c =
    let r = g.R.Racer in word_small r (state_at c.args.word.now c.args.lanes.now.items) c.requires.sound c.requires.count

pub returns-clause-goes : goal.returns-clause-goes
returns-clause-goes g c =
    let r = g.R.Racer in
    turned_here r (state_at c.args.word.now c.args.lanes.now.items) c.args.number c.index_mut-lane.result.now c.turn.new.lane c.turn.new.word c.requires.sound (omega arith) c.index_mut-lane.ensures.value c.turn.ensures.turn

pub returns-clause-nearer : goal.returns-clause-nearer
returns-clause-nearer g c =
    let r = g.R.Racer in
    let s = state_at c.args.word.now c.args.lanes.now.items in
    let h = nearer_here r s c.args.number c.index_mut-lane.result.now c.turn.new.lane c.turn.new.word c.requires.sound (omega arith) c.index_mut-lane.ensures.value c.turn.ensures.turn in
    rw c.is_running-runs.ensures h
