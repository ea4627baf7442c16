use Rattle.theory.proofs.TwoSidedLaws.{two_sided_kept, two_sided_tested}
use Rattle.theory.proofs.two_sided.two_sided_tables_are_congruences.Goals as goal

pub returns-clause-kept : goal.returns-clause-kept
returns-clause-kept c = two_sided_kept

pub returns-clause-tested : goal.returns-clause-tested
returns-clause-tested c = two_sided_tested
