use Rattle.theory.proofs.LatticeLaws.{table_congruence, meet_congruence, join_congruence, standard_table}
use Rattle.theory.proofs.lattice.meet_and_join_are_right_congruences.Goals as goal

pub returns-clause-table : goal.returns-clause-table
returns-clause-table c = table_congruence

pub returns-clause-meet : goal.returns-clause-meet
returns-clause-meet c = meet_congruence

pub returns-clause-join : goal.returns-clause-join
returns-clause-join c = join_congruence

pub returns-clause-standard : goal.returns-clause-standard
returns-clause-standard c = standard_table
