use Rattle.std.proofs.Common.{◌≡◌, ◌<◌, length, None, sym, subst, ◌∙◌, arith, length-set}
use Rattle.std.proofs.lemmas.List.{get_or_read}
use Rattle.word_graph.specs.Steps.{step_at}
use Rattle.word_graph.specs.declared.walks.Step.{Step}
use Rattle.word_graph.proofs.StandardLaws.{step_inside}
use Rattle.word_graph.proofs.ImageLaws.{images_next, images_end, parent_inside}
use Rattle.word_graph.proofs.walks.Walk.images.Goals as goal

pub index-requires : goal.index-requires
index-requires c =
    let walk = c.requires.walk c.letters-letters.result c.letters-letters.ensures.graph in
    let less : c.loop-place.place < length c.args.self.now.steps.items = omega (arith, c.loop-place-test.true, c.len-place-end.ensures) in
    let at : c.index-step.result.now ≡ step_at c.args.self.now.steps.items c.loop-place.place = get_or_read _ _ _ less c.index-step.ensures (record { node = 0; parent = 0; letter = 0 }) in
    let parent = parent_inside c.letters-letters.result c.args.graph.now c.args.self.now.steps.items c.args.self.now.places.items walk c.loop-place.place c.index-step.result.now at c.loop-place.invariant.begun less in
    omega (arith, parent)

pub index-requires-in-loop-place : goal.index-requires-in-loop-place
index-requires-in-loop-place c =
    let walk = c.requires.walk c.letters-letters.result c.letters-letters.ensures.graph in
    let less : c.loop-place.place < length c.args.self.now.steps.items = omega (arith, c.loop-place-test.true, c.len-place-end.ensures) in
    let at : c.index-step.result.now ≡ step_at c.args.self.now.steps.items c.loop-place.place = get_or_read _ _ _ less c.index-step.ensures (record { node = 0; parent = 0; letter = 0 }) in
    let parent = parent_inside c.letters-letters.result c.args.graph.now c.args.self.now.steps.items c.args.self.now.places.items walk c.loop-place.place c.index-step.result.now at c.loop-place.invariant.begun less in
    let from : c.index.result.now ≡ step_at c.args.self.now.steps.items c.index-step.result.now.parent = get_or_read _ _ _ parent c.index.ensures (record { node = 0; parent = 0; letter = 0 }) in
    let node : c.index.result.now.node < length c.args.graph.now = subst (λ (s : Step). s.node < length c.args.graph.now) (sym from)
    (step_inside c.letters-letters.result c.args.graph.now c.args.self.now.steps.items c.args.self.now.places.items c.letters-letters.ensures.graph walk c.index-step.result.now.parent parent) in
    omega (arith, node, c.loop-place.invariant.shape)

pub index_mut-requires-in-loop-place : goal.index_mut-requires-in-loop-place
index_mut-requires-in-loop-place c =
    let walk = c.requires.walk c.letters-letters.result c.letters-letters.ensures.graph in
    let less : c.loop-place.place < length c.args.self.now.steps.items = omega (arith, c.loop-place-test.true, c.len-place-end.ensures) in
    let at : c.index-step.result.now ≡ step_at c.args.self.now.steps.items c.loop-place.place = get_or_read _ _ _ less c.index-step.ensures (record { node = 0; parent = 0; letter = 0 }) in
    let node : c.index-step.result.now.node < length c.args.graph.now = subst (λ (s : Step). s.node < length c.args.graph.now) (sym at)
    (step_inside c.letters-letters.result c.args.graph.now c.args.self.now.steps.items c.args.self.now.places.items c.letters-letters.ensures.graph walk c.loop-place.place less) in
    omega (arith, node, c.loop-place.invariant.shape)

pub loop-place-preserved : goal.loop-place-preserved
loop-place-preserved c =
    let walk = c.requires.walk c.letters-letters.result c.letters-letters.ensures.graph in
    let less : c.loop-place.place < length c.args.self.now.steps.items = omega (arith, c.loop-place-test.true, c.len-place-end.ensures) in
    let at : c.index-step.result.now ≡ step_at c.args.self.now.steps.items c.loop-place.place = get_or_read _ _ _ less c.index-step.ensures (record { node = 0; parent = 0; letter = 0 }) in
    let parent = parent_inside c.letters-letters.result c.args.graph.now c.args.self.now.steps.items c.args.self.now.places.items walk c.loop-place.place c.index-step.result.now at c.loop-place.invariant.begun less in
    let from : c.index.result.now ≡ step_at c.args.self.now.steps.items c.index-step.result.now.parent = get_or_read _ _ _ parent c.index.ensures (record { node = 0; parent = 0; letter = 0 }) in
    let behind : c.index.result.now.node < length c.args.graph.now = subst (λ (s : Step). s.node < length c.args.graph.now) (sym from)
    (step_inside c.letters-letters.result c.args.graph.now c.args.self.now.steps.items c.args.self.now.places.items c.letters-letters.ensures.graph walk c.index-step.result.now.parent parent) in
    let there : c.index.result.now.node < length c.loop-place.images.items = omega (arith, behind, c.loop-place.invariant.shape) in
    let node : c.index-step.result.now.node < length c.args.graph.now = subst (λ (s : Step). s.node < length c.args.graph.now) (sym at)
    (step_inside c.letters-letters.result c.args.graph.now c.args.self.now.steps.items c.args.self.now.places.items c.letters-letters.ensures.graph walk c.loop-place.place less) in
    record {
      images = λ k over.
          images_next k c.args.graph.now c.args.self.now.steps.items c.args.self.now.places.items over c.args.first c.loop-place.place c.loop-place.images.items
          c.index-step.result.now c.index.result.now c.index-in-loop-place.result.now c.further.result
          at from (get_or_read _ _ _ there c.index-in-loop-place.ensures None) c.further.ensures c.loop-place.invariant.begun less node (c.loop-place.invariant.images k over);
      shape = length-set c.loop-place.images.items c.index-step.result.now.node c.further.result ∙ c.loop-place.invariant.shape;
      begun = omega arith;
    }

pub returns-clause-images : goal.returns-clause-images
returns-clause-images c = λ k walk.
    images_end k c.args.graph.now c.args.self.now.steps.items c.args.self.now.places.items walk c.args.first c.loop-place.place c.loop-place.images.items
    (omega (arith, c.loop-place-test.false, c.len-place-end.ensures)) (c.loop-place.invariant.images k walk)
