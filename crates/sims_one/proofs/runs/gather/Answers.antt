use Rattle.sims_one.proofs.PartLaws.{gathering_none, gathering_more}
use Rattle.sims_one.proofs.runs.gather.Goals as goal

pub loop-numbered-init : goal.loop-numbered-init
loop-numbered-init g c = gathering_none c.args.groups.now c.args.parts.now c.requires.0 c.requires.1

pub loop-numbered-preserved : goal.loop-numbered-preserved
loop-numbered-preserved g c = gathering_more c.args.groups.now.items c.loop-numbered.all_ran c.loop-numbered.groups c.take.new.self c.loop-numbered.parts c.push_reserved.new.self c.in-Some.numbered c.loop-numbered.invariant c.in-Some.ensures.0 c.push_reserved.ensures.items c.push_reserved.ensures.capacity
