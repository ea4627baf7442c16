use Rattle.coincidence.specs.Kept.{IsKept, cells_left}
use Rattle.coincidence.proofs.order.Order.first_unmarked.Given as goal

abbrev pub invariant-loop-node : goal.invariant-loop-node
invariant-loop-node l = IsKept l.letters l.edges.graph l.marked.items l.self

abbrev pub decreases-loop-node : goal.decreases-loop-node
decreases-loop-node l = cells_left l.letters l.edges.graph l.self
