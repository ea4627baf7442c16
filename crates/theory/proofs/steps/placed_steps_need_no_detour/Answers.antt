use Rattle.theory.proofs.PlacedChains.{leads_straight}
use Rattle.theory.proofs.steps.placed_steps_need_no_detour.Goals as goal

pub returns : goal.returns
returns c = leads_straight
