use Rattle.theory.proofs.Words.{shortlex_induction}
use Rattle.theory.proofs.order.shortlex_is_well_founded.Goals as goal

pub returns : goal.returns
returns g c = shortlex_induction g.P.Words.has
