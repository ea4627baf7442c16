use Rattle.std.proofs.Common.{◌≡◌, ◌<◌, List, length, get_or, ap, subst, arith, ◌∙◌}
use Rattle.std.proofs.lemmas.List.{take_all}
use Rattle.theory.specs.Word.{Word}
use Rattle.rewriting.specs.Rules.{AreOver}
use Rattle.rewriting.proofs.LetterLaws.{rule_over}
use Rattle.rewriting.proofs.rule_lists.Rules.letters.Goals as goal

pub loop-rule-preserved : goal.loop-rule-preserved
loop-rule-preserved c =
    let same : c.deref-rule-items.result.now ≡ c.args.self.now = c.deref-rule-items.ensures.value ∙ c.self.view_is in
    let within : c.loop-rule.rule-index < length c.args.self.now = omega (arith, c.loop-rule-test.true, ap length same) in
    record {
      few = c.letters_in-letters-in-loop-rule.ensures.few;
      over =
          rule_over c.loop-rule.letters c.letters_in-letters.result c.letters_in-letters-in-loop-rule.result c.args.self.now c.loop-rule.rule-index c.rule-item.result c.loop-rule.invariant.over within
          (c.rule-item.is ∙ ap (λ (rs : List (Word × Word)). get_or rs c.loop-rule.rule-index c.rule-item.result) same) c.letters_in-letters.ensures.least c.letters_in-letters.ensures.over
          c.letters_in-letters-in-loop-rule.ensures.least c.letters_in-letters-in-loop-rule.ensures.over;
    }

pub returns-clause-over : goal.returns-clause-over
returns-clause-over c =
    let same : c.deref-rule-items.result.now ≡ c.args.self.now = c.deref-rule-items.ensures.value ∙ c.self.view_is in
    subst (λ (rs : List (Word × Word)). AreOver c.loop-rule.letters rs) (take_all c.loop-rule.rule-index c.args.self.now (omega (arith, c.loop-rule-test.false, ap length same)))
    c.loop-rule.invariant.over
