use Rattle.theory.proofs.PlacedChains.{gives_one, all_give_one, leads_one}
use Rattle.theory.proofs.steps.placed_steps_are_functions.Goals as goal

pub returns-clause-one : goal.returns-clause-one
returns-clause-one c = gives_one

pub returns-clause-all : goal.returns-clause-all
returns-clause-all c = all_give_one

pub returns-clause-last : goal.returns-clause-last
returns-clause-last c = leads_one
