use Rattle.green.proofs.ToldLaws.{told_by_classes}
use Rattle.green.proofs.facts.green_by_classes.Goals as goal

pub returns : goal.returns
returns g c = told_by_classes g.V.Values.shape g.V.Values.product g.V.PartialEq.eq g.met.V.Values.products
