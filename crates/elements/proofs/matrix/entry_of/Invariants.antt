use Rattle.std.proofs.Common.{◌≡◌, length, slice_index_or}
use Rattle.elements.specs.Matrix.{sum_below, entry_at}
use Rattle.elements.proofs.matrix.entry_of.Given as goal

-- the sum so far
abbrev pub invariant-loop-k : goal.invariant-loop-k
invariant-loop-k g l =
    let add = g.S.Semiring.add in
    let multiply = g.S.Semiring.multiply l.semiring in
    let nothing = g.S.Semiring.nothing in
    l.sum ≡ sum_below add multiply nothing (λ k. multiply (slice_index_or l.row k nothing) (entry_at add multiply nothing (length l.row) l.right k l.column)) l.k
