use Rattle.std.proofs.Common.{List, Bool}
use Rattle.coincidence.specs.Kept.{IsKept, cells_left}
use Rattle.coincidence.proofs.order.Order.first_missing.Given as goal

abbrev pub invariant-loop-node : goal.invariant-loop-node
invariant-loop-node l = record {
  some : (marked : List Bool) × IsKept l.letters l.edges.graph marked l.self;
  kept : (marked : List Bool) → IsKept l.letters l.edges.graph marked l.initial.self → IsKept l.letters l.edges.graph marked l.self;
}

abbrev pub decreases-loop-node : goal.decreases-loop-node
decreases-loop-node l = cells_left l.letters l.edges.graph l.self
