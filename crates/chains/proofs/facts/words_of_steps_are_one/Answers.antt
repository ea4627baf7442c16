use Rattle.chains.proofs.ChainLaws.{one_chain}
use Rattle.chains.proofs.facts.words_of_steps_are_one.Goals as goal

pub returns : goal.returns
returns c = one_chain
