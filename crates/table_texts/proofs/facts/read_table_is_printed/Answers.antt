use Rattle.table_texts.proofs.ReprintLaws.{table_again}
use Rattle.table_texts.proofs.facts.read_table_is_printed.Goals as goal

pub returns : goal.returns
returns c = table_again
