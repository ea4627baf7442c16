use Rattle.std.proofs.Common.{refl}
use Rattle.elements.proofs.ProductRows.{rows_more}
use Rattle.elements.proofs.matrix.multiply.Goals as goal

pub loop-i-preserved : goal.loop-i-preserved
loop-i-preserved g c =
    let multiply = g.S.Semiring.multiply c.args.semiring.now in
    rows_more g.S.Semiring.add multiply g.S.Semiring.nothing c.args.dimension c.args.left.now c.args.right.now c.loop-i.i c.loop-i.product.items c.push_row.new.product.items _ c.requires.left c.loop-i-test.true refl c.in_ok-push_row.ensures c.loop-i.invariant
