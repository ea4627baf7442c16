use Rattle.std.proofs.Common.{◌-◌, arith}
use Rattle.elements.proofs.Bits.{unpack_more}
use Rattle.elements.proofs.bmat.packed.unpacked.Goals as goal

pub loop-i-preserved : goal.loop-i-preserved
loop-i-preserved c = unpack_more c.args.count c.args.x c.loop-i.i (c.args.count - 1 - c.loop-i.i) c.is_set.result c.loop-i.entries.items c.push.new.self.items (omega arith) c.is_set.ensures c.in_ok-push.ensures.items c.loop-i.invariant
