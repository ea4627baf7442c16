use Rattle.theory.proofs.GreenLaws.{green_by_graphs}
use Rattle.theory.proofs.green.green_by_cayley_graphs.Goals as goal

pub returns : goal.returns
returns g c = λ s. green_by_graphs s (g.met.V.Values.products s.one)
