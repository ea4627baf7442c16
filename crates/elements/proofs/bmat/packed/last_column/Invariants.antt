use Rattle.std.proofs.Common.{◌≡◌, ◌*◌, ◌<◌, ◌^◌}
use Rattle.elements.specs.Bits.{column_of_ones}
use Rattle.elements.proofs.bmat.packed.last_column.Given as goal

-- the rows so far
abbrev pub invariant-loop : goal.invariant-loop
invariant-loop l = record { ones : l.ones ≡ column_of_ones l.n l.counter; below : l.ones < 2 ^ (l.counter * l.n) }
