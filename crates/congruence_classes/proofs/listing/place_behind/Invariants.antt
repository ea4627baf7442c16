use Rattle.std.proofs.Common.{◌-◌}
use Rattle.congruence_classes.proofs.PlaceLaws.{Halved}
use Rattle.congruence_classes.proofs.listing.place_behind.Given as goal

abbrev pub invariant-loop-low : goal.invariant-loop-low
invariant-loop-low g l = Halved (g.L.ListedClasses.list l.classes) l.first l.cursor l.low l.high

abbrev pub decreases-loop-low : goal.decreases-loop-low
decreases-loop-low g l = l.high - l.low
