use Rattle.theory.proofs.PlacedChains.{leads_related}
use Rattle.theory.proofs.steps.placed_steps_decide.Goals as goal

pub returns : goal.returns
returns c = leads_related
