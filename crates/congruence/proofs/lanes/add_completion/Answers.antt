use Rattle.std.proofs.Common.{ap₂}
use Rattle.theory.specs.Congruence.{Presentation}
use Rattle.congruence.specs.declared.engine.Engine.TheVariants.{Completion}
use Rattle.congruence.specs.Engines.{Rewriting}
use Rattle.congruence.proofs.LaneLaws.{with_task}
use Rattle.congruence.proofs.lanes.add_completion.Goals as goal

pub returns : goal.returns
returns c =
    with_task c.add_lane.result _ _ (Completion c.in_ok-completion.completion) _
    (ap₂ (λ (p : Presentation) L. Rewriting (record { presentation = p; length = L })) c.in_ok-completion.ensures.presentation c.in_ok-completion.ensures.length)
    c.add_lane.ensures
