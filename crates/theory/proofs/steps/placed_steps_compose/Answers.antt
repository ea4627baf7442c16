use Rattle.theory.proofs.PlacedChains.{leads_after, leads_back, leads_inside}
use Rattle.theory.proofs.steps.placed_steps_compose.Goals as goal

pub returns-clause-after : goal.returns-clause-after
returns-clause-after c = leads_after

pub returns-clause-back : goal.returns-clause-back
returns-clause-back c = leads_back

pub returns-clause-inside : goal.returns-clause-inside
returns-clause-inside c = leads_inside
