use Rattle.std.proofs.Common.{◌≡◌, length, subst, arith}
use Rattle.froidure_pin.specs.Rules.{rules_to}
use Rattle.froidure_pin.proofs.RuleSteps.{rules_more}
use Rattle.froidure_pin.proofs.rules.Products.rules.Goals as goal

pub loop-place-preserved : goal.loop-place-preserved
loop-place-preserved c = rules_more c.args.self.now.letters c.args.self.now.factors.now.items c.args.self.now.right.now.items c.in_ok-suffixes.suffixes.items c.loop-place.place c.loop-place.rules.items c.add_rule.new.rules.items c.in_ok-add_rule.ensures c.loop-place.invariant

pub returns : goal.returns
returns c =
    let full : c.loop-place.place ≡ length c.args.self.now.right.now.items = omega (arith, c.loop-place-test.false, c.loop-place.auto.place-end) in
    (c.in_ok-suffixes.suffixes.items, c.in_ok-suffixes.ensures, subst (λ n. c.loop-place.rules.items ≡ rules_to c.args.self.now.letters c.args.self.now.factors.now.items c.args.self.now.right.now.items c.in_ok-suffixes.suffixes.items n) full c.loop-place.invariant)
