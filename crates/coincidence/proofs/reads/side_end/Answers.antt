use Rattle.std.proofs.Common.{sym, ◌∙◌}
use Rattle.coincidence.proofs.ReadLaws.{side_leads}
use Rattle.coincidence.proofs.reads.side_end.Goals as goal

pub returns : goal.returns
returns c = λ node here. c.target.ensures ∙ sym (side_leads c.args.edges.now.graph node c.args.at c.letter.result c.len-count.result c.args.side.now (sym c.len-count.ensures) c.if-count-eq0.false c.letter.ensures here)
