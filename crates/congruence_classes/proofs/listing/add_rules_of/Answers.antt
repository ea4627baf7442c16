use Rattle.std.proofs.Common.{◌≡◌, ◌+◌, sym, ◌∙◌, subst, arith, Option}
use Rattle.theory.specs.Word.{Word as Letters}
use Rattle.congruence_classes.specs.ListedRules.{AreRulesTo, IsRuleOf}
use Rattle.congruence_classes.proofs.ListedRuleLists.{rule_none, rule_more, next_place}
use Rattle.congruence_classes.proofs.listing.add_rules_of.Goals as goal
use Rattle.congruence_classes.proofs.listing.add_rules_of.Goals.{in-Some+in_ok-push, in_default}

pub loop-number-preserved : goal.loop-number-preserved
loop-number-preserved g c =
    let list = g.L.ListedClasses.list c.args.classes.now in
    let found : IsRuleOf list c.args.place c.loop-number.number c.in_ok-left.field-0 =
    subst (λ a. IsRuleOf list c.args.place a c.in_ok-left.field-0) (c.new-letter.ensures) c.in_ok-left.ensures in
    elim c.match-branch-3.branch [
      | in-Some+in_ok-push w ↦
          subst (AreRulesTo list c.args.place (c.loop-number.number + 1)) (sym (w.rules-is ∙ w.in_ok-push.ensures.ok))
          (rule_more list c.args.place c.loop-number.number c.loop-number.rules c.loop-number.invariant
          (w.in-Some.left, w.in-Some.right) c.requires.listing.ascending c.requires.place (omega (arith, c.loop-number-test.true, c.letters-number-end.ensures))
          (subst (λ (o : Option (Letters × Letters)). IsRuleOf list c.args.place c.loop-number.number o) w.in-Some.is found))
      | in_default w ↦
          subst (AreRulesTo list c.args.place (c.loop-number.number + 1)) (sym w.rules-is)
          (rule_none list c.args.place c.loop-number.number c.loop-number.rules c.loop-number.invariant
          (subst (λ (o : Option (Letters × Letters)). IsRuleOf list c.args.place c.loop-number.number o) w.in_default.is found))
    ]

pub returns : goal.returns
returns g c =
    let list = g.L.ListedClasses.list c.args.classes.now in
    next_place list c.args.place c.loop-number.rules
    (let all : c.loop-number.number ≡ list.letters = omega (arith, c.loop-number.auto.number-end, c.loop-number-test.false, c.letters-number-end.ensures) in
    subst (λ n. AreRulesTo list c.args.place n c.loop-number.rules) all c.loop-number.invariant)
