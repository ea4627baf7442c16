use Rattle.std.proofs.Common.{ℕ, ◌<◌, [], length}
use Rattle.knuth_bendix.specs.Overlaps.{AreJoined, rule_at}
use Rattle.knuth_bendix.proofs.confluence.are_joined.Given as goal

abbrev pub invariant-loop-first : goal.invariant-loop-first
invariant-loop-first l = (k second : ℕ) → k < l.first → second < length l.rules → AreJoined l.lengths l.rules [] (rule_at l.rules k) (rule_at l.rules second)
