use Rattle.knuth_bendix.specs.Logs.{KeepsLog}
use Rattle.knuth_bendix.proofs.OverlapSteps.{IsJoinedWith}
use Rattle.knuth_bendix.proofs.overlaps.Pending.join_all.Given as goal

abbrev pub invariant-loop-other : goal.invariant-loop-other
invariant-loop-other l = record {
  joined : IsJoinedWith l.fn.lengths l.rules l.fn.self.equations l.self.equations l.newest l.other;
  logged : KeepsLog l.fn.self.log l.self.log l.rules l.self.equations;
}
