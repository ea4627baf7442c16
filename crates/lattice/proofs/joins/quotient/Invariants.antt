use Rattle.std.proofs.Common.{ℕ}
use Rattle.theory.specs.Graph.{IsGraph}
use Rattle.lattice.specs.Quotients.{IsQuotientTo}
use Rattle.lattice.proofs.joins.quotient.Given as goal

abbrev pub invariant-loop-node : goal.invariant-loop-node
invariant-loop-node l = (k : ℕ) → IsGraph k l.s → IsQuotientTo k l.s l.classes l.graph l.node 0
