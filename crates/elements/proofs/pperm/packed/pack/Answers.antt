use Rattle.std.proofs.Common.{refl}
use Rattle.elements.proofs.OptionalDigits.{pack_more}
use Rattle.elements.proofs.pperm.packed.pack.Goals as goal

pub loop-y-preserved : goal.loop-y-preserved
loop-y-preserved c =
    let step = pack_more c.args.images.now c.loop-y.number c.loop-y.y-index c.digit_of.result _ c.requires.few c.loop-y-test.true c.digit_of.ensures.below c.digit_of.ensures.digit refl c.loop-y.invariant.images c.loop-y.invariant.below in
    record { images = step.0; below = step.1 }
