use Rattle.theory.proofs.EndsOrFails.{rules_are_listed, reduces_to_reduced}
use Rattle.theory.proofs.completion.rules_are_finite.Goals as goal

pub returns-clause-listed : goal.returns-clause-listed
returns-clause-listed c = rules_are_listed

pub returns-clause-reduced : goal.returns-clause-reduced
returns-clause-reduced c = reduces_to_reduced
