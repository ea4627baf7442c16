use Rattle.std.proofs.Common.{◌-◌, ◌≤◌, length}
use Rattle.knuth_bendix.specs.Logs.{KeepsLog}
use Rattle.knuth_bendix.specs.Overlaps.{rule_at}
use Rattle.knuth_bendix.proofs.OverlapSteps.{IsJoinedTo}
use Rattle.knuth_bendix.proofs.overlaps.Pending.join_shared.Given as goal

abbrev pub invariant-loop-shared : goal.invariant-loop-shared
invariant-loop-shared l = record {
  joined : IsJoinedTo l.fn.lengths l.rules l.fn.self.equations l.self.equations (record { first = l.first; second = l.second; shared = l.shared });
  logged : KeepsLog l.fn.self.log l.self.log l.rules l.self.equations;
  few : l.shared - 1 ≤ length (rule_at l.rules l.first).0;
}
