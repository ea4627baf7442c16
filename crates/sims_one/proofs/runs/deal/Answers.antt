use Rattle.std.proofs.Common.{vec_capacity}
use Rattle.sims_one.proofs.PartLaws.{dealing_none, dealing_more}
use Rattle.sims_one.proofs.runs.deal.Goals as goal

pub loop-part-init : goal.loop-part-init
loop-part-init g c = dealing_none c.args.parts.now c.args.groups.now c.requires

pub loop-part-preserved : goal.loop-part-preserved
loop-part-preserved g c = rw c.put.ensures (dealing_more c.args.parts.now.items (vec_capacity c.args.parts.now) c.loop-part.parts c.pop.new.self c.loop-part.groups c.in-Some.part c.len-number.result c.loop-part.invariant c.in-Some.ensures.items c.in-Some.ensures.capacity)
