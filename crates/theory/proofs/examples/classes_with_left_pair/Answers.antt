use Rattle.theory.proofs.PairExamples.{left_classes, left_index}
use Rattle.theory.proofs.examples.classes_with_left_pair.Goals as goal

pub returns-clause-list : goal.returns-clause-list
returns-clause-list c = left_classes

pub returns-clause-index : goal.returns-clause-index
returns-clause-index c = left_index
