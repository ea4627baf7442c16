use Rattle.coincidence.proofs.ReplacedLaws.{off_read, stays_hop}
use Rattle.coincidence.proofs.replaced.follow.Goals as goal

pub returns-clause-stays : goal.returns-clause-stays
returns-clause-stays c = stays_hop c.args.live.now.items c.args.replaced_by.now.items c.args.node c.index-next.result.now c.index-further.result.now c.requires.replaced c.requires.lost (off_read c.args.live.now.items c.index-next.result.now c.index.result.now c.index.ensures c.if-index.false) c.index-next.ensures c.index-further.ensures
