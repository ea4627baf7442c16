use Rattle.std.proofs.Common.{drop}
use Rattle.chains.proofs.ChainLaws.{IsBegun}
use Rattle.chains.proofs.chains.words_of.Given as goal

abbrev pub invariant-loop-place : goal.invariant-loop-place
invariant-loop-place l = IsBegun l.presentation.presentation l.from l.steps.items l.words.items l.word (drop l.place l.steps.items)
