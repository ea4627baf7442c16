use Rattle.std.proofs.Common.{◌≡◌, length, subst, arith}
use Rattle.word_graph.specs.Levels.{IsLevelledBefore}
use Rattle.word_graph.proofs.walks.Walk.by_levels.Goals as goal

pub loop-from-smaller : goal.loop-from-smaller
loop-from-smaller c = omega (arith, (c.loop-from.invariant.walk c.letters-letters.result c.letters-letters.ensures.graph).left, c.loop-from-test.true)

pub returns : goal.returns
returns c = λ k graph.
    let end : c.loop-from.from ≡ length c.loop-from.walk.steps.items = omega arith in
    subst (IsLevelledBefore k c.args.graph.now c.loop-from.walk.steps.items c.loop-from.walk.places.items) end (c.loop-from.invariant.walk k graph)
