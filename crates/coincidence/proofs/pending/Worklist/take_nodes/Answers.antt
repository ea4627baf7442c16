use Rattle.coincidence.proofs.PendingLaws.{nodes_push}
use Rattle.coincidence.proofs.pending.Worklist.take_nodes.Goals as goal

pub loop-node-preserved : goal.loop-node-preserved
loop-node-preserved c = nodes_push c.loop-node.self c.push_node.new.self c.loop-node.node c.in_ok-push_node.ensures c.loop-node.invariant
