use Rattle.std.proofs.Common.{◌≡◌, Some, take}
use Rattle.theory.specs.Graph.{path as path_of}
use Rattle.coincidence.proofs.reads.prefix_path.Given as goal

abbrev pub invariant-loop-i : goal.invariant-loop-i
invariant-loop-i l = path_of l.edges.graph l.node (take l.i l.word) ≡ Some l.at
