use Rattle.std.proofs.Common.{ℕ}
use Rattle.theory.specs.Graph.{IsGraph}
use Rattle.lattice.specs.Quotients.{IsQuotientTo}
use Rattle.lattice.proofs.joins.add_edges.Given as goal

abbrev pub invariant-loop-number : goal.invariant-loop-number
invariant-loop-number l = (k : ℕ) → IsGraph k l.s → IsQuotientTo k l.s l.classes l.graph l.node l.number
