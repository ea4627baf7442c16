use Rattle.std.proofs.Common.{◌*◌, ◌<◌, ◌^◌}
use Rattle.elements.proofs.Columns.{AreSums}
use Rattle.elements.proofs.bmat.packed.packed_product.Given as goal

-- the sums of the places so far
abbrev pub invariant-loop-k : goal.invariant-loop-k
invariant-loop-k l = record { sums : AreSums l.n l.left l.right l.k l.product; below : l.product < 2 ^ (l.n * l.n) }
