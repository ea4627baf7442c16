use Rattle.theory.proofs.LatticeLaws.{product_meet, merging_joins}
use Rattle.theory.proofs.lattice.products_meet_and_merges_join.Goals as goal

pub returns-clause-meet : goal.returns-clause-meet
returns-clause-meet c = product_meet

pub returns-clause-join : goal.returns-clause-join
returns-clause-join c = merging_joins
