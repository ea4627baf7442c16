use Rattle.chains.specs.Derivations.{AreKept}
use Rattle.chains.proofs.derivations.Derivations.chains_of.Given as goal

abbrev pub invariant-loop-number : goal.invariant-loop-number
invariant-loop-number l = AreKept l.self l.kept
