use Rattle.cayley.proofs.WholeLaws.{word_classes}
use Rattle.cayley.proofs.facts.words_by_classes.Goals as goal

pub returns : goal.returns
returns g c = word_classes g.E.Values.shape g.E.Values.product g.E.PartialEq.eq g.met.E.Values.products
