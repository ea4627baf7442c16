use Rattle.cayley.proofs.PlacedClasses.{ArePlacedTo}
use Rattle.cayley.proofs.placing.placed.Given as goal

abbrev pub invariant-loop-number : goal.invariant-loop-number
invariant-loop-number l = ArePlacedTo l.classes l.number l.roots.items l.places.items
