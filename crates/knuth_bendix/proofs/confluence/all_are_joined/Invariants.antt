use Rattle.std.proofs.Common.{ℕ, ◌<◌, []}
use Rattle.knuth_bendix.specs.Overlaps.{AreJoined, rule_at}
use Rattle.knuth_bendix.proofs.confluence.all_are_joined.Given as goal

abbrev pub invariant-loop-second : goal.invariant-loop-second
invariant-loop-second l = (k : ℕ) → k < l.second → AreJoined l.ahead.lengths l.rules [] (rule_at l.rules l.first) (rule_at l.rules k)
