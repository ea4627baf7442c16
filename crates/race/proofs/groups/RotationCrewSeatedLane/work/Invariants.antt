use Rattle.std.specs.List.{AllZip}
use Rattle.race.specs.SeatedLane.{TookTurns, turns_left}
use Rattle.race.proofs.groups.RotationCrewSeatedLane.work.Given as goal

abbrev pub invariant-loop : goal.invariant-loop
invariant-loop g l = let r = g.R.Racer in AllZip (TookTurns r l.self.word.now.table_id) l.fn.group l.group

abbrev pub decreases-loop : goal.decreases-loop
decreases-loop g l = let r = g.R.Racer in turns_left r l.group
