use Rattle.rewriting.specs.Tables.{edges}
use Rattle.reduced_automaton.specs.Paths.{GoesOn}
use Rattle.reduced_automaton.specs.Framings.{AreMarks, frame_paths}
use Rattle.reduced_automaton.proofs.marks.ends_of.Given as goal

abbrev pub invariant-loop-node : goal.invariant-loop-node
invariant-loop-node l = AreMarks (λ node. GoesOn (frame_paths (edges l.graph) l.frame) node 0) l.node l.ends.items
