use Rattle.coincidence.specs.Seen.{HoldWhereSeen}
use Rattle.coincidence.proofs.PlaceLaws.{AreQuietGroups}
use Rattle.coincidence.proofs.crossings.due_in_sides.Given as goal

abbrev pub invariant-loop-k : goal.invariant-loop-k
invariant-loop-k l = record {
  quiet : AreQuietGroups l.sides.second l.sides.edges.now.graph l.sides.pairs.now l.node l.letter l.groups l.k;
  seen : HoldWhereSeen l.sides.pairs.now l.sides.edges.now.graph l.seen;
}
