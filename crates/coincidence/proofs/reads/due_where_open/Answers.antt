use Rattle.coincidence.proofs.StartLaws.{open_asks}
use Rattle.coincidence.proofs.reads.due_where_open.Goals as goal

pub returns-clause-due : goal.returns-clause-due
returns-clause-due c =
    open_asks c.args.edges.now.graph c.args.begun.now.pairs.now c.args.node c.args.first.now.every c.open.result c.unseen-mask.result c.args.first.now.letters.items c.args.seen.now c.due_in_mask.result
    c.requires.first c.requires.node c.requires.seen c.open.ensures c.unseen-mask.ensures c.due_in_mask.ensures.due
