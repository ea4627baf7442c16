use Rattle.reduced_automaton.proofs.NextPaths.{IsLastBehind}
use Rattle.reduced_automaton.proofs.readers.rise_within.Given as goal

abbrev pub invariant-loop-place : goal.invariant-loop-place
invariant-loop-place g l = IsLastBehind (g.P.KnownPaths.paths l.paths) l.root l.word l.place
