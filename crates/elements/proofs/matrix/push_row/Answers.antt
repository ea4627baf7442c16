use Rattle.elements.specs.Matrix.{row_by_column}
use Rattle.elements.proofs.ProductRows.{entries_more}
use Rattle.elements.proofs.matrix.push_row.Goals as goal

pub loop-j-preserved : goal.loop-j-preserved
loop-j-preserved g c =
    let entry = row_by_column g.S.Semiring.add (g.S.Semiring.multiply c.args.semiring.now) g.S.Semiring.nothing c.args.row.now c.args.right.now in
    entries_more entry c.args.product.now.items c.loop-j.product.items c.push.new.self.items c.loop-j.j c.entry_of.result c.in_ok-push.ensures.items c.loop-j.invariant c.entry_of.ensures
