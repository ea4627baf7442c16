use Rattle.theory.proofs.LatticeLaws.{has_both_joins, merged_within_join, merged_has}
use Rattle.theory.proofs.lattice.merging_keeps_the_join.Goals as goal

pub returns-clause-shows : goal.returns-clause-shows
returns-clause-shows c = has_both_joins

pub returns-clause-within : goal.returns-clause-within
returns-clause-within c = merged_within_join

pub returns-clause-has : goal.returns-clause-has
returns-clause-has c = merged_has
