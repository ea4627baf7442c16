use Rattle.presentation.proofs.AddedLemmas.{identity_behind, identity_before}
use Rattle.presentation.proofs.facts.identity_relations_make_an_identity.Goals as goal

pub returns-clause-behind : goal.returns-clause-behind
returns-clause-behind c = identity_behind

pub returns-clause-before : goal.returns-clause-before
returns-clause-before c = identity_before
