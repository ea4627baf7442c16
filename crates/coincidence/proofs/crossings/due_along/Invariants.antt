use Rattle.coincidence.specs.Seen.{HoldWhereSeen}
use Rattle.coincidence.proofs.ReadLaws.{IsQuietAlong}
use Rattle.coincidence.proofs.crossings.due_along.Given as goal

abbrev pub invariant-loop-place : goal.invariant-loop-place
invariant-loop-place l = record {
  quiet : IsQuietAlong l.edges.graph l.edge.node l.edge.letter l.one.side.now l.one.side.now l.one.other.now l.place;
  seen : HoldWhereSeen l.one.pairs.now l.edges.graph l.seen;
}
