use Rattle.query_answers.proofs.UniqueAnswer.{one_kind}
use Rattle.query_answers.proofs.facts.chain_kind_is_one.Goals as goal

pub returns : goal.returns
returns c = one_kind
