use Rattle.theory.proofs.CyclicClasses.{three_classes, index_three}
use Rattle.theory.proofs.examples.three_classes.Goals as goal

pub returns-clause-list : goal.returns-clause-list
returns-clause-list c = three_classes

pub returns-clause-index : goal.returns-clause-index
returns-clause-index c = index_three
