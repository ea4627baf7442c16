use Rattle.std.proofs.Common.{◌≡◌, refl, arith, ap, ◌∙◌}
use Rattle.elements.specs.Bits.{column_of_ones}
use Rattle.elements.proofs.Columns.{ones_more}
use Rattle.elements.proofs.bmat.packed.last_column.Goals as goal

pub loop-preserved : goal.loop-preserved
loop-preserved c =
    let step = ones_more c.args.n c.loop.counter c.loop.ones _ c.loop-test.true c.requires c.loop.invariant.ones c.loop.invariant.below refl in
    record { ones = step.0; below = step.1 }

pub returns : goal.returns
returns c =
    let all : c.loop.counter ≡ c.args.n = omega arith in
    c.loop.invariant.ones ∙ ap (column_of_ones c.args.n) all
