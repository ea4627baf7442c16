use Rattle.std.proofs.Common.{length, ◌-◌}
use Rattle.coincidence.proofs.replaced.make_room.Given as goal

abbrev pub decreases-loop-replaced_by : goal.decreases-loop-replaced_by
decreases-loop-replaced_by l = l.count - length l.replaced_by.items
