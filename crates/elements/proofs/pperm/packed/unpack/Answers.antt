use Rattle.std.proofs.Common.{arith}
use Rattle.elements.proofs.OptionalDigits.{unpack_more, unpack_all}
use Rattle.elements.proofs.pperm.packed.unpack.Goals as goal

pub loop-i-preserved : goal.loop-i-preserved
loop-i-preserved c = unpack_more c.args.count c.args.x c.loop-i.i c.image_at.result c.loop-i.images.items c.push.new.self.items c.loop-i-test.true c.image_at.ensures c.in_ok-push.ensures.items c.loop-i.invariant

pub returns : goal.returns
returns c = unpack_all c.args.count c.args.x c.loop-i.i c.loop-i.images.items (omega arith) c.loop-i.invariant
