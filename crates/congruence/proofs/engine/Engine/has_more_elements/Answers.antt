use Rattle.std.proofs.Common.{ap, sym, subst, ◌∙◌}
use Rattle.congruence.specs.declared.engine.Engine.{Engine}
use Rattle.congruence.specs.Engines.{HasMoreElements, said_of, task_of}
use Rattle.congruence.proofs.engine.Engine.has_more_elements.Goals as goal

pub returns-in-Transf-clause-more : goal.returns-in-Transf-clause-more
returns-in-Transf-clause-more c spent =
    subst (λ (e : Engine). HasMoreElements (task_of e)) (sym c.in-Transf.is) (c.is_spent.ensures.more (ap said_of (sym c.in-Transf.is) ∙ spent))

pub returns-in-PPerm-clause-more : goal.returns-in-PPerm-clause-more
returns-in-PPerm-clause-more c spent =
    subst (λ (e : Engine). HasMoreElements (task_of e)) (sym c.in-PPerm.is) (c.is_spent-in-PPerm.ensures.more (ap said_of (sym c.in-PPerm.is) ∙ spent))

pub returns-in-BMat-clause-more : goal.returns-in-BMat-clause-more
returns-in-BMat-clause-more c spent =
    subst (λ (e : Engine). HasMoreElements (task_of e)) (sym c.in-BMat.is) (c.is_spent-in-BMat.ensures.more (ap said_of (sym c.in-BMat.is) ∙ spent))

pub returns-in-MaxPlus-clause-more : goal.returns-in-MaxPlus-clause-more
returns-in-MaxPlus-clause-more c spent =
    subst (λ (e : Engine). HasMoreElements (task_of e)) (sym c.in-MaxPlus.is) (c.is_spent-in-MaxPlus.ensures.more (ap said_of (sym c.in-MaxPlus.is) ∙ spent))
