use Rattle.coincidence.proofs.ReadLaws.{met_quiet}
use Rattle.coincidence.proofs.reads.due_both.Goals as goal

pub returns-in-None : goal.returns-in-None
returns-in-None c =
    let met = c.in-None.ensures in
    met_quiet c.args.edges.now.graph c.args.node met.0 c.args.pair.now.0 c.args.pair.now.1 met.1 met.2
