use Rattle.std.proofs.Common.{◌≡◌, ℕ, ◌<◌, ◌≤◌, length, slice_index}
use Rattle.std.specs.List.{sum}
use Rattle.congruence_closure.specs.Labels.{AreBelow, AreLabels}
use Rattle.congruence_closure.proofs.parents.find_root.Given as goal

abbrev pub invariant-loop-at : goal.invariant-loop-at
invariant-loop-at l = record {
  within : l.at ≤ l.number;
  count : length l.parents.items ≡ length l.fn.parents.items;
  below : AreBelow l.parents.items;
  sum : sum l.parents.items ≤ sum l.fn.parents.items;
  tops : (i : ℕ) → i < length l.fn.parents.items → slice_index l.fn.parents.items i ≡ i → slice_index l.parents.items i ≡ i;
  labels : (label : ℕ → ℕ) → AreLabels label l.fn.parents.items → AreLabels label l.parents.items × (label l.at ≡ label l.number);
}

abbrev pub decreases-loop-at : goal.decreases-loop-at
decreases-loop-at l = l.at
