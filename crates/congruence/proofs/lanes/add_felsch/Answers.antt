use Rattle.std.proofs.Common.{ap}
use Rattle.congruence.specs.declared.engine.Engine.TheVariants.{Felsch}
use Rattle.congruence.specs.Engines.{task_of}
use Rattle.congruence.proofs.LaneLaws.{with_task}
use Rattle.congruence.proofs.lanes.add_felsch.Goals as goal

pub returns : goal.returns
returns c = with_task c.add_lane.result _ _ (Felsch c.in_ok-felsch.felsch) _ (ap (λ e. task_of (Felsch e)) c.in_ok-felsch.ensures) c.add_lane.ensures
