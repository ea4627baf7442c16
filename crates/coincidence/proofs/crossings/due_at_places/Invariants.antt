use Rattle.coincidence.specs.Seen.{HoldWhereSeen}
use Rattle.coincidence.proofs.PlaceLaws.{AreQuietPlaces}
use Rattle.coincidence.proofs.crossings.due_at_places.Given as goal

abbrev pub invariant-loop-k : goal.invariant-loop-k
invariant-loop-k l = record {
  quiet : AreQuietPlaces l.sides.second l.sides.edges.now.graph l.sides.pairs.now l.node l.places l.k;
  seen : HoldWhereSeen l.sides.pairs.now l.sides.edges.now.graph l.seen;
}
