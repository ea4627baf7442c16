use Rattle.std.proofs.Common.{ℕ, length, slice_index_or, arith}
use Rattle.std.proofs.lemmas.List.{get_or_read}
use Rattle.std.proofs.lemmas.Nat.{mul-add-lt}
use Rattle.elements.specs.Matrix.{entry_at}
use Rattle.elements.proofs.ProductRows.{sum_more}
use Rattle.elements.proofs.matrix.entry_of.Goals as goal

pub loop-k-preserved : goal.loop-k-preserved
loop-k-preserved g c =
    let add = g.S.Semiring.add in
    let multiply = g.S.Semiring.multiply c.args.semiring.now in
    let nothing = g.S.Semiring.nothing in
    let row = c.args.row.now in
    let right = c.args.right.now in
    let term = λ (k : ℕ). multiply (slice_index_or row k nothing) (entry_at add multiply nothing (length row) right k c.args.column) in
    let p = get_or_read row c.loop-k.k c.index-row-k.result c.loop-k-test.true c.index-row-k.is nothing in
    let q = get_or_read right _ c.index-right-place.result (omega (arith, c.requires.right, mul-add-lt c.loop-k.k (length row) c.args.column (length row) c.loop-k-test.true c.requires.column)) c.index-right-place.is nothing in
    sum_more add multiply nothing term c.loop-k.k c.loop-k.sum c.add_product-sum.result (multiply c.index-row-k.result c.index-right-place.result) c.add_product-sum.ensures c.loop-k.invariant (λ t. multiply (p t) (q t))
