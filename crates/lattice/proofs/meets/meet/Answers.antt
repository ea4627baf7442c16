use Rattle.lattice.proofs.ProductLaws.{meet_found}
use Rattle.lattice.proofs.meets.meet.Goals as goal

pub returns : goal.returns
returns c = meet_found c.args.s.now c.args.t.now c.in_ok-product.field-0 c.standardise-2.result c.in_ok-product.ensures c.standardise-2.ensures.shows c.standardise-2.ensures.standard
