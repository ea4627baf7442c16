use Rattle.query_answers.proofs.UniqueAnswer.{one_answer, one_status}
use Rattle.query_answers.proofs.facts.answer_is_one.Goals as goal

pub returns : goal.returns
returns c = record { undecided = one_status; lines = one_answer }
