use Rattle.std.proofs.Common.{◌≡◌, ◌≤◌, length, refl, ◌∙◌, ap, subst, arith, below_more}
use Rattle.theory.specs.Word.{Word}
use Rattle.rewriting.specs.Tries.{IsLeftLengthTo, left_at}
use Rattle.rewriting.proofs.LetterLaws.{reached_more}
use Rattle.rewriting.proofs.Standing.{rule_read}
use Rattle.rewriting.proofs.rule_lists.Rules.longest_left.Goals as goal

pub loop-place-preserved : goal.loop-place-preserved
loop-place-preserved c =
    let rules = c.args.self.now in
    let place = c.loop-place.place in
    let size : c.len.result ≡ length (left_at rules place) =
    c.len.ensures ∙ ap (λ (r : Word × Word). length r.0) (rule_read rules rules place c.rule.result.now refl (omega (arith, c.loop-place-test.true, c.len-place-end.ensures.len)) c.rule.ensures.rule) in
    let step = reached_more rules place c.loop-place.longest c.len.result c.max-longest.result size c.max-longest.ensures c.loop-place.invariant.reached in
    record {
      most = below_more (λ n. length (left_at rules n) ≤ c.max-longest.result) place (λ n h. let low = c.loop-place.invariant.most n h in omega (arith, low, step.0)) step.1;
      reached = step.2;
    }

pub returns-clause-reached : goal.returns-clause-reached
returns-clause-reached c = subst (λ count. IsLeftLengthTo c.args.self.now count c.loop-place.longest) (omega arith) c.loop-place.invariant.reached
