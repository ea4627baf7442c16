use Rattle.theory.proofs.GeneratedLaws.{same_element_normal, same_element_by_normal, same_element_list}
use Rattle.theory.proofs.values.element_classes_are_determined.Goals as goal

pub returns-clause-normal : goal.returns-clause-normal
returns-clause-normal g c = λ s. same_element_normal s (g.met.V.Values.products s.one)

pub returns-clause-decide : goal.returns-clause-decide
returns-clause-decide g c = λ s. same_element_by_normal s (g.met.V.Values.products s.one)

pub returns-clause-list : goal.returns-clause-list
returns-clause-list g c = λ s. same_element_list s (g.met.V.Values.products s.one)
