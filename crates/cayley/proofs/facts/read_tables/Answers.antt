use Rattle.cayley.proofs.WholeLaws.{read_tables}
use Rattle.cayley.proofs.facts.read_tables.Goals as goal

pub returns : goal.returns
returns g c = read_tables g.E.Values.product g.E.PartialEq.eq
