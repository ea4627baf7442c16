use Rattle.theory.proofs.GreenLaws.{idempotent_follows}
use Rattle.theory.proofs.green.idempotents_by_cayley_graphs.Goals as goal

pub returns : goal.returns
returns g c = λ s. idempotent_follows s (g.met.V.Values.products s.one)
