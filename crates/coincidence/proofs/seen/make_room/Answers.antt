use Rattle.std.proofs.Common.{◌∙◌, ap, get_or}
use Rattle.coincidence.proofs.SeenLaws.{pushed_zero}
use Rattle.coincidence.proofs.seen.make_room.Goals as goal

pub loop-masks-preserved : goal.loop-masks-preserved
loop-masks-preserved c = λ n. ap (λ z. get_or z n 0) c.in_ok-push.ensures.items ∙ pushed_zero c.loop-masks.masks.items n ∙ c.loop-masks.invariant n
