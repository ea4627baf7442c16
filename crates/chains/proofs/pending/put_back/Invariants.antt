use Rattle.std.proofs.Common.{◌≡◌, ◌++◌, map, take}
use Rattle.chains.specs.Derivations.{moved, turned}
use Rattle.chains.proofs.pending.put_back.Given as goal

abbrev pub invariant-loop-step : goal.invariant-loop-step
invariant-loop-step l = l.pending.items ≡ l.initial.pending.items ++ map (λ s. moved l.letters (turned s)) (take l.step-index l.steps)
