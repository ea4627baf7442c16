use Rattle.std.proofs.Common.{subst}
use Rattle.presentation.specs.Presented.{Posed}
use Rattle.congruence_classes.specs.Rewriting.{IsReducerOf}
use Rattle.congruence_classes.proofs.RewrittenWords.{finite_by, infinite_by}
use Rattle.congruence_classes.proofs.reduced_words.ReducedClasses.index.Goals as goal

pub returns-then-is_infinite-clause-index : goal.returns-then-is_infinite-clause-index
returns-then-is_infinite-clause-index c =
    infinite_by c.args.self.now.congruence c.self.inside.words (subst (λ (k : Posed). IsReducerOf k.congruence c.self.inside.words) c.self.view_is c.self.invariant) (c.is_infinite.ensures.infinite.0 c.if-is_infinite.true)

pub count-requires : goal.count-requires
count-requires c =
    finite_by c.args.self.now.congruence c.self.inside.words (subst (λ (k : Posed). IsReducerOf k.congruence c.self.inside.words) c.self.view_is c.self.invariant) (c.is_infinite.ensures.finite c.if-is_infinite.false)
