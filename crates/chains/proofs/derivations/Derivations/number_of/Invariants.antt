use Rattle.std.proofs.Common.{◌≡◌, ℕ, ◌<◌, slice_get, Some}
use Rattle.chains.specs.Derivations.{all_of}
use Rattle.chains.proofs.derivations.Derivations.number_of.Given as goal

abbrev pub invariant-loop-number : goal.invariant-loop-number
invariant-loop-number l = (i : ℕ) → i < l.number → slice_get (all_of l.self).relations i ≡ Some (l.left, l.right) → ⊥
