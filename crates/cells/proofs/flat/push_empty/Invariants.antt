use Rattle.std.proofs.Common.{◌≡◌, ◌++◌, replicate, None}
use Rattle.cells.proofs.flat.push_empty.Given as goal

abbrev pub invariant-loop : goal.invariant-loop
invariant-loop l = l.entries.items ≡ l.initial.entries.items ++ replicate l.counter None
