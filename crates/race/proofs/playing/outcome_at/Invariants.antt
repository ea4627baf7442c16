use Rattle.std.proofs.Common.{◌≡◌, drop}
use Rattle.race.specs.Machine.{first_starved}
use Rattle.race.proofs.playing.outcome_at.Given as goal

abbrev pub invariant-loop-number : goal.invariant-loop-number
invariant-loop-number g l = first_starved 0 l.lanes ≡ first_starved l.number (drop l.number l.lanes)
