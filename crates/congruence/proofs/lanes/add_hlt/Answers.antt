use Rattle.std.proofs.Common.{ap}
use Rattle.congruence.specs.declared.engine.Engine.TheVariants.{Hlt}
use Rattle.congruence.specs.Engines.{task_of}
use Rattle.congruence.proofs.LaneLaws.{with_task}
use Rattle.congruence.proofs.lanes.add_hlt.Goals as goal

pub returns : goal.returns
returns c = with_task c.add_lane.result _ _ (Hlt c.in_ok-hlt.hlt) _ (ap (λ e. task_of (Hlt e)) c.in_ok-hlt.ensures) c.add_lane.ensures
