use Rattle.rewriting.specs.Tables.{edges}
use Rattle.reduced_automaton.specs.Paths.{narrowed}
use Rattle.reduced_automaton.specs.Framings.{AreMarks, IsGrown}
use Rattle.reduced_automaton.proofs.marks.grown.Given as goal

abbrev pub invariant-loop-node : goal.invariant-loop-node
invariant-loop-node l = AreMarks (IsGrown (narrowed l.letters (edges l.graph)) l.ends l.marks) l.node l.new.items
