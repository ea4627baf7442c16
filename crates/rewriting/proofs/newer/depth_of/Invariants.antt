use Rattle.std.proofs.Common.{ℕ, ◌<◌, ◌≤◌, length}
use Rattle.rewriting.specs.Tries.{left_at}
use Rattle.rewriting.proofs.newer.depth_of.Given as goal

abbrev pub invariant-loop-place : goal.invariant-loop-place
invariant-loop-place l = record {
  some : 0 < l.depth;
  long : (place : ℕ) → l.first ≤ place → place < l.place → l.depth ≤ length (left_at l.rules place);
}
