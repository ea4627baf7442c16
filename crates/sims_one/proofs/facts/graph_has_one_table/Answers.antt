use Rattle.sims_one.proofs.GraphLaws.{table_there, table_one}
use Rattle.sims_one.proofs.facts.graph_has_one_table.Goals as goal

pub returns-clause-exists : goal.returns-clause-exists
returns-clause-exists c = λ p n g some elements is. table_there p n g elements is

pub returns-clause-one : goal.returns-clause-one
returns-clause-one c = table_one
