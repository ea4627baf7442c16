use Rattle.std.proofs.Common.{◌∙◌, ◌<◌, ap, slice_index, arith, length}
use Rattle.congruence_closure.proofs.parents.find_root.Goals as goal

pub loop-at-preserved : goal.loop-at-preserved
loop-at-preserved c = record {
  within = omega (arith, c.skip_parent-at.ensures.lower, c.loop-at.invariant.within, c.loop-at.invariant.below c.loop-at.at (omega (arith, c.loop-at.invariant.within, c.loop-at.invariant.count, c.requires.within)));
  count = c.skip_parent-at.ensures.count ∙ c.loop-at.invariant.count;
  below = c.skip_parent-at.ensures.below;
  sum = omega (arith, c.skip_parent-at.ensures.sum, c.loop-at.invariant.sum);
  tops = λ i h top. c.skip_parent-at.ensures.tops i (omega (arith, h, c.loop-at.invariant.count)) (c.loop-at.invariant.tops i h top);
  labels = λ label l.
      let now = c.loop-at.invariant.labels label l in
      let here : c.loop-at.at < length c.loop-at.parents.items = omega (arith, c.loop-at.invariant.within, c.loop-at.invariant.count, c.requires.within) in
      let there : slice_index c.loop-at.parents.items c.loop-at.at < length c.loop-at.parents.items = omega (arith, here, c.loop-at.invariant.below c.loop-at.at here) in
      (c.skip_parent-at.ensures.labels label now.0, ap label c.skip_parent-at.ensures.parent ∙ now.0.parent (slice_index c.loop-at.parents.items c.loop-at.at) there ∙ now.0.parent c.loop-at.at here ∙ now.1);
}
