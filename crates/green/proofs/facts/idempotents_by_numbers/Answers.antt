use Rattle.green.proofs.ToldLaws.{told_by_numbers}
use Rattle.green.proofs.facts.idempotents_by_numbers.Goals as goal

pub returns : goal.returns
returns g c = told_by_numbers g.V.Values.shape g.V.Values.product g.V.PartialEq.eq g.met.V.Values.products
