use Rattle.std.proofs.Common.{◌≡◌, ℕ, ◌<◌, length, slice_index}
use Rattle.congruence_closure.proofs.parents.singletons.Given as goal

abbrev pub invariant-loop-number : goal.invariant-loop-number
invariant-loop-number l = record {
  count : length l.parents.items ≡ l.number;
  own : (i : ℕ) → i < l.number → slice_index l.parents.items i ≡ i;
}
