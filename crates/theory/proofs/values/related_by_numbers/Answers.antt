use Rattle.theory.proofs.GeneratedLaws.{same_element_by_numbers}
use Rattle.theory.proofs.values.related_by_numbers.Goals as goal

pub returns : goal.returns
returns g c = λ s. same_element_by_numbers s (g.met.V.Values.products s.one)
