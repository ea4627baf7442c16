use Rattle.std.proofs.Common.{◌≡◌, ℕ, Some, take}
use Rattle.theory.specs.Graph.{path}
use Rattle.coincidence.proofs.crossings.front_from.Given as goal

abbrev pub invariant-loop-i : goal.invariant-loop-i
invariant-loop-i l = (n : ℕ) → path l.edges.graph n (take l.place l.side) ≡ Some l.node → path l.edges.graph n (take l.i l.side) ≡ Some l.at
