use Rattle.std.proofs.Common.{ℕ, ◌<◌}
use Rattle.coincidence.specs.Seen.{HoldWhereSeen}
use Rattle.coincidence.specs.Starts.{IsDueByLetter}
use Rattle.coincidence.specs.declared.due.Due.TheVariants.{Nothing}
use Rattle.coincidence.proofs.reads.due_by_letters.Given as goal

abbrev pub invariant-loop-number : goal.invariant-loop-number
invariant-loop-number l = record {
  quiet : (x : ℕ) → x < l.number → IsDueByLetter l.edges.graph l.begun.pairs.now l.node l.begun.starts.now x Nothing;
  seen : HoldWhereSeen l.begun.pairs.now l.edges.graph l.seen;
}
