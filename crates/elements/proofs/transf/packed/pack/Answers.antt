use Rattle.std.proofs.Common.{refl}
use Rattle.elements.proofs.Digits.{pack_more}
use Rattle.elements.proofs.transf.packed.pack.Goals as goal

pub loop-y-preserved : goal.loop-y-preserved
loop-y-preserved c =
    let step = pack_more c.args.images.now c.loop-y.number c.loop-y.y-index _ c.requires.few c.requires.images c.loop-y-test.true refl c.loop-y.invariant.images c.loop-y.invariant.below in
    record { images = step.0; below = step.1 }
