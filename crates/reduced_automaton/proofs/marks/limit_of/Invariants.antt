use Rattle.rewriting.specs.Tables.{edges}
use Rattle.reduced_automaton.specs.Framings.{count_marked, frame_paths}
use Rattle.reduced_automaton.proofs.MarkLaws.{AreFar}
use Rattle.reduced_automaton.proofs.marks.limit_of.Given as goal

abbrev pub invariant-loop-alloc : goal.invariant-loop-alloc
invariant-loop-alloc l = AreFar (frame_paths (edges l.graph) l.frame) l.start l.letters l.far.items

abbrev pub decreases-loop-alloc : goal.decreases-loop-alloc
decreases-loop-alloc l = count_marked l.far.items
