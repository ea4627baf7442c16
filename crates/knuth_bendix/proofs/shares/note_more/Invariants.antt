use Rattle.std.proofs.Common.{◌≡◌, length}
use Rattle.knuth_bendix.proofs.MarkLaws.{BoundsFewer}
use Rattle.knuth_bendix.proofs.shares.note_more.Given as goal

abbrev pub invariant-loop-shared : goal.invariant-loop-shared
invariant-loop-shared l = record {
  size : length l.most ≡ 256;
  fewer : BoundsFewer l.word l.most l.shared;
}
