use Rattle.std.proofs.Common.{take}
use Rattle.chains.proofs.AlongLaws.{IsGoing}
use Rattle.chains.proofs.walks.Walk.go_all.Given as goal

abbrev pub invariant-loop-place : goal.invariant-loop-place
invariant-loop-place l = IsGoing l.presentation.presentation l.initial.self l.pending (take l.place l.pending) l.self
