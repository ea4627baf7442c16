use Rattle.std.proofs.Common.{◌≡◌, ◌++◌}
use Rattle.theory.specs.Word.{Word}
use Rattle.reduced_automaton.specs.Paths.{GoesOn, IsLeastPath}
use Rattle.reduced_automaton.proofs.readers.extend_least.Given as goal

abbrev pub invariant-loop-rest : goal.invariant-loop-rest
invariant-loop-rest g l =
    record {
      goes : GoesOn (g.P.KnownPaths.paths l.paths) l.at l.rest;
      path : (v : Word) × (l.word ≡ l.initial.word ++ v) × ((w : Word) → IsLeastPath (g.P.KnownPaths.paths l.paths) l.at l.rest w → IsLeastPath (g.P.KnownPaths.paths l.paths) l.node l.count (v ++ w));
    }
