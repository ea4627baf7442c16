use Rattle.sims_one.proofs.CongruenceTables.{table_of_congruence}
use Rattle.sims_one.proofs.facts.right_congruence_has_a_table.Goals as goal

pub returns : goal.returns
returns g c = λ p n elements sides is. table_of_congruence p n g.R.Relation.relates elements sides is
