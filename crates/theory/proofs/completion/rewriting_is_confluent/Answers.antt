use Rattle.theory.proofs.Completed.{completed_confluent}
use Rattle.theory.proofs.completion.rewriting_is_confluent.Goals as goal

pub returns : goal.returns
returns c = completed_confluent
