use Rattle.std.proofs.Common.{get_or}
use Rattle.coincidence.proofs.ReadLaws.{met_quiet}
use Rattle.coincidence.proofs.reads.due_unless_seen.Goals as goal

pub returns-then-has-clause-due : goal.returns-then-has-clause-due
returns-then-has-clause-due c = λ p.
    let met = c.requires.seen c.args.node c.args.number p (c.has.ensures c.if-has.true) c.requires.node in
    met_quiet c.args.edges.now.graph c.args.node met.0 (get_or c.args.begun.now.pairs.now c.args.number p).0 (get_or c.args.begun.now.pairs.now c.args.number p).1 met.1 met.2
