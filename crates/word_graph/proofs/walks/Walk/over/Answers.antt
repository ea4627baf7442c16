use Rattle.std.proofs.Common.{arith}
use Rattle.word_graph.proofs.walks.Walk.over.Goals as goal

pub loop-place-smaller : goal.loop-place-smaller
loop-place-smaller c = omega (arith, (c.loop-place.invariant.walk c.letters-letters.result c.letters-letters.ensures.graph).left, c.loop-place-test.true)
