use Rattle.rewriting.specs.Tables.{edges}
use Rattle.reduced_automaton.specs.Paths.{narrowed}
use Rattle.reduced_automaton.specs.Framings.{AreMarks, LeadsTo}
use Rattle.reduced_automaton.proofs.marks.layer_behind.Given as goal

abbrev pub invariant-loop-node : goal.invariant-loop-node
invariant-loop-node l = AreMarks (LeadsTo (narrowed l.letters (edges l.graph)) l.marks) l.node l.layer.items
