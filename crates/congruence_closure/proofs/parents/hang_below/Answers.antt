use Rattle.congruence_closure.proofs.LabelLaws.{hang_merged}
use Rattle.congruence_closure.proofs.parents.hang_below.Goals as goal

pub returns-clause-merged : goal.returns-clause-merged
returns-clause-merged c = hang_merged c.args.parents.now.items c.args.low c.args.high c.requires.order c.requires.within
