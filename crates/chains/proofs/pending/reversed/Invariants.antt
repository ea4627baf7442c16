use Rattle.std.proofs.Common.{◌≡◌, drop, reverse}
use Rattle.chains.proofs.pending.reversed.Given as goal

abbrev pub invariant-loop-place : goal.invariant-loop-place
invariant-loop-place l = l.pending.items ≡ reverse (drop l.place l.steps)
