use Rattle.std.proofs.Common.{◌<◌, ◌∙◌, Option, Some, subst, arith}
use Rattle.theory.specs.Word.{Word as Letters}
use Rattle.theory.specs.Class.{SameClass}
use Rattle.presentation.specs.Presented.{Posed}
use Rattle.congruence_classes.proofs.RewrittenCounts.{IsCountTo, TellsNext, count_end, count_over, count_step}
use Rattle.congruence_classes.proofs.reduced_words.ReducedClasses.count.Goals as goal

pub returns-then-count-bound-clause-index : goal.returns-then-count-bound-clause-index
returns-then-count-bound-clause-index c =
    let less : c.args.bound < c.requires.0 =
    subst (λ n. n < c.requires.0) (omega (arith, c.if-count-bound.true))
    (count_over c.args.self.now.congruence c.loop-next.count c.requires.0 c.in-Some.word
    (subst (λ (o : Option Letters). IsCountTo (SameClass c.args.self.now.congruence) c.loop-next.count o) c.in-Some.is c.loop-next.invariant.is) c.requires.1) in
    (c.requires.0, c.requires.1, less)

pub loop-next-preserved : goal.loop-next-preserved
loop-next-preserved c =
    record {
      kept = c.in_ok-next-2.ensures.kept ∙ c.loop-next.invariant.kept;
      within = omega (arith, c.loop-next.invariant.within, c.if-count-bound.false);
      is = count_step (SameClass c.args.self.now.congruence) c.loop-next.count c.in-Some.word c.in_ok-next-2.next
          (subst (λ (o : Option Letters). IsCountTo (SameClass c.args.self.now.congruence) c.loop-next.count o) c.in-Some.is c.loop-next.invariant.is)
          (subst (λ (p : Posed). TellsNext (SameClass p.congruence) (Some c.in-Some.word) c.in_ok-next-2.next) c.loop-next.invariant.kept c.in_ok-next-2.ensures.next);
    }

pub returns-clause-index : goal.returns-clause-index
returns-clause-index c = (
  count_end (SameClass c.args.self.now.congruence) c.loop-next.count
      (subst (λ (o : Option Letters). IsCountTo (SameClass c.args.self.now.congruence) c.loop-next.count o) c.in_default.is c.loop-next.invariant.is),
  c.loop-next.invariant.within,
)
