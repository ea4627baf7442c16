use Rattle.std.proofs.Common.{drop}
use Rattle.chains.proofs.ChainLaws.{IsLed}
use Rattle.chains.proofs.chains.check.Given as goal

abbrev pub invariant-loop-place : goal.invariant-loop-place
invariant-loop-place l = IsLed l.presentation.presentation l.from l.steps.items l.word (drop l.place l.steps.items)
