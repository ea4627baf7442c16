use Rattle.presentation.proofs.AddedLemmas.{further_had, earlier_had}
use Rattle.presentation.proofs.facts.further_relations_are_had.Goals as goal

pub returns-clause-further : goal.returns-clause-further
returns-clause-further c = further_had

pub returns-clause-earlier : goal.returns-clause-earlier
returns-clause-earlier c = earlier_had
