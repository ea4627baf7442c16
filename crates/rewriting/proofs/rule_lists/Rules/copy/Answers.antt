use Rattle.std.proofs.Common.{◌≡◌, ◌<◌, ◌∷◌, ◌++◌, [], List, length, get_or, sym, ◌∙◌, ap, ap₂, subst, arith}
use Rattle.std.proofs.lemmas.List.{get_or_read, take_all, take_more}
use Rattle.theory.specs.Word.{Word}
use Rattle.rewriting.specs.Rules.{AreFalling}
use Rattle.rewriting.proofs.rule_lists.Rules.copy.Goals as goal

pub loop-rule-preserved : goal.loop-rule-preserved
loop-rule-preserved c =
    let index = c.loop-rule.rule-index in
    let same : c.deref-rule-items.result.now ≡ c.args.self.now = c.deref-rule-items.ensures.value ∙ c.self.view_is in
    let inside : index < length c.args.self.now = omega (arith, c.loop-rule-test.true, ap length same) in
    let at : c.rule-item.result ≡ get_or c.args.self.now index ([], []) =
    get_or_read c.args.self.now index c.rule-item.result inside (c.rule-item.is ∙ ap (λ (rs : List (Word × Word)). get_or rs index c.rule-item.result) same) ([], []) in
    c.in_ok-push.ensures.items ∙ ap₂ (λ (rs : List (Word × Word)) (r : Word × Word). rs ++ r ∷ []) c.loop-rule.invariant (c.in_ok-copied.ensures ∙ at)
    ∙ sym (take_more c.args.self.now index ([], []) inside)

pub returns : goal.returns
returns c =
    let same : c.deref-rule-items.result.now ≡ c.args.self.now = c.deref-rule-items.ensures.value ∙ c.self.view_is in
    c.loop-rule.invariant ∙ take_all c.loop-rule.rule-index c.args.self.now (omega (arith, c.loop-rule-test.false, ap length same))

pub invariant_of-result : goal.invariant_of-result
invariant_of-result c =
    let whole : c.loop-rule.items.items ≡ c.self.inside.items.items = c.loop-rule.invariant
    ∙ take_all c.loop-rule.rule-index c.args.self.now (omega (arith, c.loop-rule-test.false, ap length (c.deref-rule-items.ensures.value ∙ c.self.view_is))) ∙ sym c.self.view_is in
    subst (λ (rs : List (Word × Word)). AreFalling rs) (sym whole) c.self.invariant
