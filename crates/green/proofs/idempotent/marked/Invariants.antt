use Rattle.std.proofs.Common.{◌<◌, None}
use Rattle.theory.specs.Listing.{IsListOf}
use Rattle.green.proofs.IdempotentLaws.{IsMarkedBefore}
use Rattle.green.proofs.idempotent.marked.Given as goal

abbrev pub invariant-loop-number : goal.invariant-loop-number
invariant-loop-number l = IsListOf (IsMarkedBefore l.marks l.number) ◌<◌ None l.found.items
