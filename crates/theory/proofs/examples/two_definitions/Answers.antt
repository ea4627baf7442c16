use Rattle.theory.proofs.CyclicExample.{two_are_enough, one_is_not_enough}
use Rattle.theory.proofs.examples.two_definitions.Goals as goal

pub returns-clause-enough : goal.returns-clause-enough
returns-clause-enough c = two_are_enough

pub returns-clause-needed : goal.returns-clause-needed
returns-clause-needed c = one_is_not_enough
