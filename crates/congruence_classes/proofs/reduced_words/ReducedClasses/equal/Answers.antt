use Rattle.std.proofs.Common.{subst}
use Rattle.presentation.specs.Presented.{Posed}
use Rattle.congruence_classes.specs.Rewriting.{IsReducerOf}
use Rattle.congruence_classes.proofs.RewrittenWords.{equal_by}
use Rattle.congruence_classes.proofs.reduced_words.ReducedClasses.equal.Goals as goal

pub returns : goal.returns
returns c =
    equal_by c.args.self.now.congruence c.self.inside.words (subst (λ (k : Posed). IsReducerOf k.congruence c.self.inside.words) c.self.view_is c.self.invariant) c.args.u.now c.args.v.now
    c.in_ok-left.left c.in_ok-right.right c.letters.result.now c.letters-2.result.now c.eq.result c.requires.left c.requires.right
    c.in_ok-left.ensures.reached c.in_ok-left.ensures.reduced c.in_ok-right.ensures.reached c.in_ok-right.ensures.reduced
    c.letters.ensures c.letters-2.ensures c.eq.ensures
