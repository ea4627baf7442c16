use Rattle.sims_one.proofs.GoingOn.{tables_go_on}
use Rattle.sims_one.proofs.facts.tables_go_on.Goals as goal

pub returns : goal.returns
returns c = λ p n some. tables_go_on p n some
