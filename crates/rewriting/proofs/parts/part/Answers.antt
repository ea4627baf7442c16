use Rattle.std.proofs.Common.{refl, ◌∙◌}
use Rattle.rewriting.proofs.PartLaws.{parts_start, parts_step}
use Rattle.rewriting.proofs.parts.part.Goals as goal

pub loop-rule-init : goal.loop-rule-init
loop-rule-init c = parts_start c.args.left.now c.args.first _ c.new.ensures.items c.new-2.ensures.items c.new-3.ensures.items refl

pub loop-rule-preserved : goal.loop-rule-preserved
loop-rule-preserved c =
    parts_step c.args.left.now c.loop-rule.yielded c.in-Some.rule c.args.first c.loop-rule.parts _ c.loop-rule.invariant c.in_ok-put.ensures.kept c.in_ok-put.ensures.gone c.in_ok-put.ensures.moved
    c.first_of.ensures.early (λ h. c.first_of.ensures.late h ∙ c.in_ok-put.ensures.first)
