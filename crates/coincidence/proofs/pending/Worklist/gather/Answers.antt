use Rattle.std.proofs.Common.{◌<◌, subst}
use Rattle.coincidence.proofs.PendingLaws.{closed_nodes}
use Rattle.coincidence.proofs.pending.Worklist.gather.Goals as goal

pub returns-in_ok-take_nodes : goal.returns-in_ok-take_nodes
returns-in_ok-take_nodes c = λ pairs graph live count closed.
    closed_nodes pairs graph live c.take_nodes.new.self (λ node less. c.in_ok-take_nodes.ensures node (subst (λ n. node < n) count less))
