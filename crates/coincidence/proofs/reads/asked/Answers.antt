use Rattle.std.proofs.Common.{sym, ◌∙◌}
use Rattle.coincidence.proofs.ReadLaws.{stopped_quiet}
use Rattle.coincidence.proofs.reads.asked.Goals as goal

pub returns-in-None : goal.returns-in-None
returns-in-None c = stopped_quiet c.args.edges.now.graph c.args.node c.args.pair.now.0 c.args.pair.now.1 (sym c.front_end.ensures ∙ c.in-None.is)
