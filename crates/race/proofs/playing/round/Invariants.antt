use Rattle.std.proofs.Common.{◌≡◌, ℕ, ◌<◌}
use Rattle.std.specs.Prelude.{MatchBool}
use Rattle.race.specs.Machine.{Goes, EndedAt, state_at, weight, numbers}
use Rattle.race.proofs.playing.round.Given as goal

abbrev pub invariant-loop-number : goal.invariant-loop-number
invariant-loop-number g l =
    let r = g.R.Racer in
    Goes r (numbers l.number) (state_at l.fn.word l.fn.lanes.items) (state_at l.word l.lanes.items)
    × MatchBool l.any_ran (weight r l.lanes.items < weight r l.fn.lanes.items) ((l.lanes.items ≡ l.fn.lanes.items) × ((j : ℕ) → j < l.number → EndedAt j l.fn.lanes.items))
