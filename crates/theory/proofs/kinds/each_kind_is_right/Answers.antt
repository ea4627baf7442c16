use Rattle.theory.proofs.KindLaws.{as_right_related, as_right_sided, as_right_well_formed}
use Rattle.theory.proofs.kinds.each_kind_is_right.Goals as goal

pub returns-clause-related : goal.returns-clause-related
returns-clause-related c = as_right_related

pub returns-clause-sided : goal.returns-clause-sided
returns-clause-sided c = as_right_sided

pub returns-clause-elements : goal.returns-clause-elements
returns-clause-elements c = as_right_well_formed
