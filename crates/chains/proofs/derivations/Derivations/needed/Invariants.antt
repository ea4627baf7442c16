use Rattle.std.proofs.Common.{◌≡◌, length}
use Rattle.chains.proofs.derivations.Derivations.needed.Given as goal

abbrev pub invariant-loop-number : goal.invariant-loop-number
invariant-loop-number l = length l.needed.items ≡ length l.self.facts
