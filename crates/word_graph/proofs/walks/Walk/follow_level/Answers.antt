use Rattle.std.proofs.Common.{◌≡◌, subst, arith, ℕ, [], sym, ◌∙◌}
use Rattle.word_graph.specs.Levels.{frontier_at, IsLevelledTo}
use Rattle.word_graph.proofs.LevelSteps.{levelled_next}
use Rattle.word_graph.proofs.walks.Walk.follow_level.Goals as goal

pub returns-clause-walk : goal.returns-clause-walk
returns-clause-walk c = λ k graph is.
    let width : c.letters-letters.result ≡ k = sym (c.letters-letters.ensures.graph.width 0 [] graph.rooted) ∙ graph.width 0 [] graph.rooted in
    let end : c.loop-number.number ≡ k = omega (arith, width) in
    levelled_next k c.args.graph.now c.loop-number.self.steps.items c.loop-number.self.places.items c.args.from c.args.to graph
    (subst (λ (z : ℕ). IsLevelledTo k c.args.graph.now c.loop-number.self.steps.items c.loop-number.self.places.items (frontier_at c.args.from c.args.to z c.args.from)) end (c.loop-number.invariant.walk k graph is))
