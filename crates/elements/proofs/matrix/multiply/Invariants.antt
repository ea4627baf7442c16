use Rattle.std.proofs.Common.{◌≡◌, ◌*◌, ◌/◌, ◌%◌, map}
use Rattle.std.specs.List.{range_with_len}
use Rattle.elements.specs.Matrix.{product_entry}
use Rattle.elements.proofs.matrix.multiply.Given as goal

-- the rows so far
abbrev pub invariant-loop-i : goal.invariant-loop-i
invariant-loop-i g l = l.product.items ≡ map (λ p. product_entry g.S.Semiring.add (g.S.Semiring.multiply l.semiring) g.S.Semiring.nothing l.dimension l.left l.right (p / l.dimension) (p % l.dimension)) (range_with_len 0 (l.i * l.dimension))
