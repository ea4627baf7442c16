use Rattle.std.proofs.Common.{◌≡◌, ℕ, ◌-◌, ◌*◌, ◌/◌, ◌^◌, ◌<◌, ap, sym, subst, arith}
use Rattle.std.specs.Prelude.{bit_or, bit_and}
use Rattle.std.proofs.lemmas.Nat.{or_lt}
use Rattle.elements.proofs.Columns.{AreSums, sums_more, sums_all, column_below, column_by_row, column_fits}
use Rattle.elements.proofs.bmat.packed.packed_product.Goals as goal

pub overflow_mul-product : goal.overflow_mul-product
overflow_mul-product c = let fits = column_fits c.args.n c.args.left c.args.right c.loop-k.k c.row_at.result c.last_column-ones.result c.requires.few c.last_column-ones.ensures c.loop-k-test.true c.row_at.ensures.below in omega (arith, fits)

pub loop-k-preserved : goal.loop-k-preserved
loop-k-preserved c =
    let n : ℕ = c.args.n in
    let k : ℕ = c.loop-k.k in
    let row : ℕ = c.row_at.result in
    let made = ap (λ ones. bit_or c.loop-k.product (bit_and (c.args.left / 2 ^ (n - 1 - k)) ones * row)) c.last_column-ones.ensures in
    let column = column_below n c.args.left c.args.right k row c.loop-k-test.true c.row_at.ensures.below in
    record {
      sums = sums_more n c.args.left c.args.right k c.loop-k.product row _ c.loop-k-test.true c.row_at.ensures.below c.row_at.ensures.row made c.loop-k.invariant.sums;
      below = subst (λ z. z < 2 ^ (n * n)) (sym made) (or_lt (n * n) c.loop-k.product (column_by_row n c.args.left c.args.right k row) c.loop-k.invariant.below column);
    }

pub returns-clause-product : goal.returns-clause-product
returns-clause-product c =
    let all : c.loop-k.k ≡ c.args.n = omega arith in
    sums_all c.args.n c.args.left c.args.right c.loop-k.product (subst (λ k. AreSums c.args.n c.args.left c.args.right k c.loop-k.product) all c.loop-k.invariant.sums)
