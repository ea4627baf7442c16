use Rattle.theory.proofs.LatticeLaws.{meet_compatible, join_compatible, meet_free, join_free}
use Rattle.theory.proofs.lattice.meet_and_join_keep_relations.Goals as goal

pub returns-clause-meet : goal.returns-clause-meet
returns-clause-meet c = meet_compatible

pub returns-clause-join : goal.returns-clause-join
returns-clause-join c = join_compatible

pub returns-clause-meet_root : goal.returns-clause-meet_root
returns-clause-meet_root c = meet_free

pub returns-clause-join_root : goal.returns-clause-join_root
returns-clause-join_root c = join_free
