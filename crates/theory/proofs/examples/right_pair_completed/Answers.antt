use Rattle.theory.proofs.BicyclicExample.{bicyclic_ends_at_two, bicyclic_needs_two, least_power, infinite_powers}
use Rattle.theory.proofs.examples.right_pair_completed.Goals as goal

pub returns-clause-enough : goal.returns-clause-enough
returns-clause-enough c = bicyclic_ends_at_two

pub returns-clause-needed : goal.returns-clause-needed
returns-clause-needed c = bicyclic_needs_two

pub returns-clause-least : goal.returns-clause-least
returns-clause-least c = least_power

pub returns-clause-infinite : goal.returns-clause-infinite
returns-clause-infinite c = infinite_powers
