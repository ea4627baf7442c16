use Rattle.theory.proofs.PlacedSteps.{all_give_related, related_all_give}
use Rattle.theory.proofs.order.placed_steps_join.Goals as goal

pub returns-clause-related : goal.returns-clause-related
returns-clause-related c = all_give_related

pub returns-clause-steps : goal.returns-clause-steps
returns-clause-steps c = related_all_give
