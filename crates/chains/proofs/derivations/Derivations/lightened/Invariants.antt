use Rattle.chains.specs.Derivations.{IsFrontOf}
use Rattle.chains.proofs.derivations.Derivations.lightened.Given as goal

abbrev pub invariant-loop-number : goal.invariant-loop-number
invariant-loop-number l = IsFrontOf l.number l.self l.light
