use Rattle.std.proofs.Common.{◌≡◌, subst, arith, ℕ}
use Rattle.word_graph.specs.Levels.{frontier_at, IsLevelledTo}
use Rattle.word_graph.proofs.LevelSteps.{levelled_letter}
use Rattle.word_graph.proofs.walks.Walk.follow_letter.Goals as goal

pub returns-clause-walk : goal.returns-clause-walk
returns-clause-walk c = λ k graph less is.
    let end : c.loop-place.place ≡ c.args.to = omega arith in
    levelled_letter k c.args.graph.now c.loop-place.self.steps.items c.loop-place.self.places.items c.args.from c.args.to c.args.letter
    (subst (λ (z : ℕ). IsLevelledTo k c.args.graph.now c.loop-place.self.steps.items c.loop-place.self.places.items (frontier_at c.args.from c.args.to c.args.letter z)) end (c.loop-place.invariant.walk k graph less is))
