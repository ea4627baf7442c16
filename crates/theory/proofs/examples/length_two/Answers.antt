use Rattle.theory.proofs.SemilatticeExample.{semilattice_ends_at_two, semilattice_needs_two, semilattice_rules}
use Rattle.theory.proofs.examples.length_two.Goals as goal

pub returns-clause-enough : goal.returns-clause-enough
returns-clause-enough c = semilattice_ends_at_two

pub returns-clause-needed : goal.returns-clause-needed
returns-clause-needed c = semilattice_needs_two

pub returns-clause-rules : goal.returns-clause-rules
returns-clause-rules c = semilattice_rules
