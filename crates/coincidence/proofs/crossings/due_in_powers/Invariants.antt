use Rattle.coincidence.specs.Seen.{HoldWhereSeen}
use Rattle.coincidence.proofs.PlaceLaws.{AreQuietPowers}
use Rattle.coincidence.proofs.crossings.due_in_powers.Given as goal

abbrev pub invariant-loop-k : goal.invariant-loop-k
invariant-loop-k l = record {
  quiet : AreQuietPowers l.sides.second l.sides.edges.now.graph l.sides.pairs.now l.node l.fn.letter l.places l.k;
  seen : HoldWhereSeen l.sides.pairs.now l.sides.edges.now.graph l.seen;
}
