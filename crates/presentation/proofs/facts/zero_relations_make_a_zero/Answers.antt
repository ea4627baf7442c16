use Rattle.presentation.proofs.AddedLemmas.{zero_behind, zero_before}
use Rattle.presentation.proofs.facts.zero_relations_make_a_zero.Goals as goal

pub returns-clause-behind : goal.returns-clause-behind
returns-clause-behind c = zero_behind

pub returns-clause-before : goal.returns-clause-before
returns-clause-before c = zero_before
