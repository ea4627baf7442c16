use Rattle.std.proofs.Common.{arith, ap, length}
use Rattle.std.proofs.lemmas.Result.{IfOk-weaker}
use Rattle.congruence.proofs.LaneLaws.{one_start}
use Rattle.congruence.proofs.lanes.lanes_for.Goals as goal

pub returns-clause-starts : goal.returns-clause-starts
returns-clause-starts c = IfOk-weaker c.one_lane.result _ _ (λ lanes are. one_start _ lanes.items are) c.one_lane.ensures

pub returns-clause-count : goal.returns-clause-count
returns-clause-count c = IfOk-weaker c.one_lane.result _ _ (λ lanes are. omega (arith, ap length are)) c.one_lane.ensures
