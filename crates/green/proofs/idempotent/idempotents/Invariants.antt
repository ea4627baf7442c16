use Rattle.green.specs.Idempotents.{AreMarked}
use Rattle.green.proofs.idempotent.idempotents.Given as goal

abbrev pub invariant-loop-number : goal.invariant-loop-number
invariant-loop-number l = AreMarked l.tables l.both l.number l.seen.items l.marks.items
