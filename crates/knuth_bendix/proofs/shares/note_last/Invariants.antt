use Rattle.std.proofs.Common.{◌≡◌, length}
use Rattle.knuth_bendix.proofs.MarkLaws.{IsFilled}
use Rattle.knuth_bendix.proofs.shares.note_last.Given as goal

abbrev pub invariant-loop-second : goal.invariant-loop-second
invariant-loop-second l = record {
  size : length l.most ≡ 256;
  filled : IsFilled l.row l.second l.most;
}
