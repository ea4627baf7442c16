use Rattle.std.proofs.Common.{◌≡◌, drop}
use Rattle.theory.specs.Graph.{path as path_of}
use Rattle.rewriting.specs.Tables.{edges}
use Rattle.rewriting.proofs.index_automaton.IndexAutomaton.path_from.Given as goal

abbrev pub invariant-loop-i : goal.invariant-loop-i
invariant-loop-i l = path_of (edges l.self) l.at (drop l.i l.word) ≡ path_of (edges l.self) l.fn.node l.word
