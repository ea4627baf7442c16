use Rattle.theory.proofs.GeneratedLaws.{same_element_by_merges}
use Rattle.theory.proofs.values.related_by_merges.Goals as goal

pub returns : goal.returns
returns g c = λ s. same_element_by_merges s (g.met.V.Values.products s.one)
