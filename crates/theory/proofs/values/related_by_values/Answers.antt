use Rattle.theory.proofs.GeneratedLaws.{same_element_by_values}
use Rattle.theory.proofs.values.related_by_values.Goals as goal

pub returns : goal.returns
returns g c = λ s. same_element_by_values s (g.met.V.Values.products s.one)
