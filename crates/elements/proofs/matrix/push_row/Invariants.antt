use Rattle.std.proofs.Common.{◌≡◌, ◌++◌, map}
use Rattle.std.specs.List.{range_with_len}
use Rattle.elements.specs.Matrix.{row_by_column}
use Rattle.elements.proofs.matrix.push_row.Given as goal

-- the entries so far
abbrev pub invariant-loop-j : goal.invariant-loop-j
invariant-loop-j g l = l.product.items ≡ l.initial.product.items ++ map (row_by_column g.S.Semiring.add (g.S.Semiring.multiply l.semiring) g.S.Semiring.nothing l.row l.right) (range_with_len 0 l.j)
