use Rattle.run_parts.proofs.InputLaws.{one_refusal}
use Rattle.run_parts.proofs.facts.refusal_is_one.Goals as goal

pub returns : goal.returns
returns c = one_refusal
