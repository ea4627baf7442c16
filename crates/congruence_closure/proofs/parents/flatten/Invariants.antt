use Rattle.std.proofs.Common.{◌≡◌, ℕ, ◌<◌, length, slice_index}
use Rattle.congruence_closure.specs.Labels.{AreBelow, AreLabels}
use Rattle.congruence_closure.proofs.parents.flatten.Given as goal

abbrev pub invariant-loop-number : goal.invariant-loop-number
invariant-loop-number l = record {
  count : length l.parents.items ≡ length l.fn.parents.items;
  below : AreBelow l.parents.items;
  labels : (label : ℕ → ℕ) → AreLabels label l.fn.parents.items → AreLabels label l.parents.items;
  roots : (label : ℕ → ℕ) → AreLabels label l.fn.parents.items → (i : ℕ) → i < l.number → slice_index l.parents.items i ≡ label i;
}
