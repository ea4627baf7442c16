use Rattle.theory.proofs.LatticeExample.{swap_meets_tail, swap_joins_tail}
use Rattle.theory.proofs.examples.meet_and_join_of_two_tables.Goals as goal

pub returns-clause-meet : goal.returns-clause-meet
returns-clause-meet c = swap_meets_tail

pub returns-clause-join : goal.returns-clause-join
returns-clause-join c = swap_joins_tail
