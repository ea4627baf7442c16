use Rattle.std.proofs.Common.{drop}
use Rattle.chains.specs.Derivations.{all_of}
use Rattle.chains.proofs.ChainLaws.{IsLed}
use Rattle.chains.proofs.derivations.Derivations.end_of.Given as goal

abbrev pub invariant-loop-place : goal.invariant-loop-place
invariant-loop-place l = IsLed (all_of l.self) l.from l.steps l.word (drop l.place l.steps)
