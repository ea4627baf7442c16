use Rattle.std.proofs.Common.{take}
use Rattle.race.specs.Machine.{Goes, state_at}
use Rattle.race.proofs.playing.follow.Given as goal

abbrev pub invariant-loop-number : goal.invariant-loop-number
invariant-loop-number g l = let r = g.R.Racer in Goes r (take l.number-index l.schedule) (state_at l.fn.word l.fn.lanes.items) (state_at l.word l.lanes.items)
