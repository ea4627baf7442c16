use Rattle.coincidence.specs.Seen.{HoldWhereSeen}
use Rattle.coincidence.proofs.StartLaws.{AreQuietTo}
use Rattle.coincidence.proofs.reads.due_in_list.Given as goal

abbrev pub invariant-loop-k : goal.invariant-loop-k
invariant-loop-k l = record {
  quiet : AreQuietTo l.edges.graph l.begun.pairs.now l.node l.list l.k;
  seen : HoldWhereSeen l.begun.pairs.now l.edges.graph l.seen;
}
