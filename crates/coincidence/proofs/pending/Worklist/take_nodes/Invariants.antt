use Rattle.std.proofs.Common.{ℕ, ◌<◌}
use Rattle.coincidence.specs.Pending.{IsAmong}
use Rattle.coincidence.specs.declared.pending.Pending.TheVariants.{NewNode}
use Rattle.coincidence.proofs.pending.Worklist.take_nodes.Given as goal

abbrev pub invariant-loop-node : goal.invariant-loop-node
invariant-loop-node l = (node : ℕ) → node < l.node → IsAmong (NewNode node) l.self
