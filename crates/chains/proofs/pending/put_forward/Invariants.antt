use Rattle.std.proofs.Common.{◌≡◌, ◌++◌, map, drop, reverse}
use Rattle.chains.specs.Derivations.{moved}
use Rattle.chains.proofs.pending.put_forward.Given as goal

abbrev pub invariant-loop-place : goal.invariant-loop-place
invariant-loop-place l = l.pending.items ≡ l.initial.pending.items ++ reverse (map (moved l.letters) (drop l.place l.steps))
