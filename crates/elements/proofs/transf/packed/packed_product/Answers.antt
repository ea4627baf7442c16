use Rattle.std.proofs.Common.{refl, arith}
use Rattle.elements.proofs.Digits.{image_below, product_more, product_all}
use Rattle.elements.proofs.transf.packed.packed_product.Goals as goal

pub overflow_sub-n-in-loop-i-3 : goal.overflow_sub-n-in-loop-i-3
overflow_sub-n-in-loop-i-3 c = omega (arith, c.digit-image.ensures.digit, image_below c.args.n c.args.left c.loop-i.i c.loop-i-test.true c.requires.images)

pub loop-i-preserved : goal.loop-i-preserved
loop-i-preserved c =
    let step = product_more c.args.n c.args.left c.args.right c.loop-i.i c.loop-i.product _ c.digit-image.result c.digit.result c.requires.few c.loop-i-test.true c.requires.images c.digit-image.ensures.digit c.digit.ensures.digit c.digit.ensures.below refl c.loop-i.invariant.images c.loop-i.invariant.below in
    record { images = step.0; below = step.1 }

pub returns-clause-product : goal.returns-clause-product
returns-clause-product c = product_all c.args.n c.args.left c.args.right c.loop-i.i c.loop-i.product (omega arith) c.loop-i.invariant.images
