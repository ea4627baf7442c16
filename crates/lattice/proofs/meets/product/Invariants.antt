use Rattle.std.proofs.Common.{ℕ, ◌*◌, ◌-◌, length}
use Rattle.lattice.specs.Products.{IsBegun}
use Rattle.lattice.specs.Tables.{AreTables}
use Rattle.lattice.proofs.meets.product.Given as goal

abbrev pub invariant-loop-place : goal.invariant-loop-place
invariant-loop-place l = (k : ℕ) → AreTables k l.s l.t → IsBegun k l.s l.t l.pairs.keys l.graph l.place 0

abbrev pub decreases-loop-place : goal.decreases-loop-place
decreases-loop-place l = length l.s * length l.t - l.place
