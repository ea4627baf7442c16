use Rattle.problem.proofs.RelatedByValue.{related_by_value}
use Rattle.problem.proofs.facts.elements_are_related_by_value.Goals as goal

pub returns : goal.returns
returns c = related_by_value
