use Rattle.theory.proofs.PairExamples.{right_classes, right_index}
use Rattle.theory.proofs.examples.classes_with_right_pair.Goals as goal

pub returns-clause-list : goal.returns-clause-list
returns-clause-list c = right_classes

pub returns-clause-index : goal.returns-clause-index
returns-clause-index c = right_index
