use Rattle.std.proofs.Common.{ℕ, ◌++◌, length}
use Rattle.race.specs.Machine.{Goes, state_at, weight, numbers, rounds_of}
use Rattle.race.proofs.playing.play.Given as goal

abbrev pub invariant-loop : goal.invariant-loop
invariant-loop g l =
    let r = g.R.Racer in
    (rounds : ℕ) × Goes r (l.schedule.items ++ rounds_of rounds (numbers (length l.fn.lanes.items))) (state_at 0 l.fn.lanes.items) (state_at l.word l.lanes.items)

abbrev pub decreases-loop : goal.decreases-loop
decreases-loop g l = let r = g.R.Racer in weight r l.lanes.items
