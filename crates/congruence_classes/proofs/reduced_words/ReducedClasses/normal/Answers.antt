use Rattle.std.proofs.Common.{subst}
use Rattle.presentation.specs.Presented.{Posed}
use Rattle.congruence_classes.specs.Rewriting.{IsReducerOf}
use Rattle.congruence_classes.proofs.RewrittenWords.{inside_is, normal_by}
use Rattle.congruence_classes.proofs.reduced_words.ReducedClasses.normal.Goals as goal

pub word_inside-requires : goal.word_inside-requires
word_inside-requires c =
    let at = inside_is c.args.self.now.congruence c.self.inside.words (subst (λ (k : Posed). IsReducerOf k.congruence c.self.inside.words) c.self.view_is c.self.invariant) c.args.u.now c.in_ok-reduced.reduced c.requires
    c.in_ok-reduced.ensures.reached c.in_ok-reduced.ensures.reduced in
    (at.0, at.1)

pub returns : goal.returns
returns c =
    normal_by c.args.self.now.congruence c.self.inside.words (subst (λ (k : Posed). IsReducerOf k.congruence c.self.inside.words) c.self.view_is c.self.invariant) c.args.u.now c.in_ok-reduced.reduced c.word_inside.result c.requires
    c.in_ok-reduced.ensures.reached c.in_ok-reduced.ensures.reduced c.word_inside.ensures
