use Rattle.std.proofs.Common.{◌≡◌, ◌++◌, drop, map, reverse}
use Rattle.chains.specs.Derivations.{turned}
use Rattle.chains.proofs.pending.turn_back.Given as goal

abbrev pub invariant-loop-place : goal.invariant-loop-place
invariant-loop-place l = l.steps.items ≡ l.initial.steps.items ++ reverse (map turned (drop l.place l.back))
