use Rattle.std.proofs.Common.{ℕ, ◌<◌, length}
use Rattle.lattice.specs.Products.{IsBegun}
use Rattle.lattice.specs.Tables.{AreTables}
use Rattle.lattice.proofs.meets.add_edges.Given as goal

abbrev pub invariant-loop-number : goal.invariant-loop-number
invariant-loop-number l = (l.place < length l.pairs.keys) × ((k : ℕ) → AreTables k l.s l.t → IsBegun k l.s l.t l.pairs.keys l.graph l.place l.number)
