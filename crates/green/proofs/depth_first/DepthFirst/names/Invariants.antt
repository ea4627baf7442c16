use Rattle.std.proofs.Common.{◌≡◌, ℕ, ◌<◌, length, slice_index}
use Rattle.green.specs.Touring.{state_at}
use Rattle.green.specs.declared.states.State.TheVariants.{Done}
use Rattle.green.proofs.depth_first.DepthFirst.names.Given as goal

abbrev pub invariant-loop-number : goal.invariant-loop-number
invariant-loop-number l = record {
  count : length l.names.items ≡ l.number;
  at : (i c : ℕ) → i < l.number → state_at l.self.states i ≡ Done c → slice_index l.names.items i ≡ c;
}
