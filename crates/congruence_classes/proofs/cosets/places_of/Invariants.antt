use Rattle.std.proofs.Common.{◌≡◌, ℕ, ◌<◌, length, slice_index}
use Rattle.congruence_classes.specs.ClassLists.{node_at}
use Rattle.congruence_classes.proofs.cosets.places_of.Given as goal

abbrev pub invariant-loop : goal.invariant-loop
invariant-loop l = length l.places.items ≡ l.counter

-- the nodes of the places before have their places
abbrev pub invariant-loop-place : goal.invariant-loop-place
invariant-loop-place l = record {
  count : length l.places.items ≡ length l.least;
  each : (i : ℕ) → i < l.place → i < length l.least → slice_index l.places.items (node_at l.least i) ≡ i;
}
