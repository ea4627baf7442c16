use Rattle.std.proofs.Common.{arith}
use Rattle.knuth_bendix.proofs.MarkLaws.{filled_all}
use Rattle.knuth_bendix.proofs.shares.note_last.Goals as goal

pub returns : goal.returns
returns c = filled_all c.args.word.now c.last_row-row.result c.loop-second.second c.loop-second.most c.last_row-row.ensures.row (omega arith) c.loop-second.invariant.filled
