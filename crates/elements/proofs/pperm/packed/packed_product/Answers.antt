use Rattle.std.proofs.Common.{refl, ap, ◌∙◌, arith}
use Rattle.elements.specs.Digits.{optional, optional_digits}
use Rattle.elements.specs.PPerm.{partial_image}
use Rattle.elements.proofs.OptionalDigits.{digit_within, product_more, product_all}
use Rattle.elements.proofs.pperm.packed.packed_product.Goals as goal

pub image_digit-requires-clause-image : goal.image_digit-requires-clause-image
image_digit-requires-clause-image c = omega (arith, c.digit.ensures.digit, digit_within c.args.n c.args.left c.loop-i.i c.loop-i-test.true c.requires.images)

pub loop-i-preserved : goal.loop-i-preserved
loop-i-preserved c =
    let right = optional_digits c.args.n c.args.right in
    let step = product_more c.args.n c.args.left c.args.right c.loop-i.i c.loop-i.product _ c.image_digit.result c.requires.few c.loop-i-test.true c.image_digit.ensures.below (c.image_digit.ensures.digit ∙ ap (λ d. partial_image right (optional d)) c.digit.ensures.digit) refl c.loop-i.invariant.images c.loop-i.invariant.below in
    record { images = step.0; below = step.1 }

pub returns-clause-product : goal.returns-clause-product
returns-clause-product c = product_all c.args.n c.args.left c.args.right c.loop-i.i c.loop-i.product (omega arith) c.loop-i.invariant.images
