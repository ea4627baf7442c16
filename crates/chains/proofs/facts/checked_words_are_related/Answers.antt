use Rattle.chains.proofs.ChainLaws.{lead_related}
use Rattle.chains.proofs.facts.checked_words_are_related.Goals as goal

pub returns : goal.returns
returns c = lead_related
