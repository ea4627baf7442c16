use Rattle.words.proofs.AlphabetLemmas.{means}
use Rattle.words.proofs.facts.fault_is_first.Goals as goal

pub returns : goal.returns
returns c = means
