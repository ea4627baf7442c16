use Rattle.query_lang.proofs.StepLaw.{one_step, step_has_no_cause}
use Rattle.query_lang.proofs.TotalLaw.{total}
use Rattle.query_lang.proofs.facts.line_is_read_or_refused.Goals as goal

pub returns-clause-read : goal.returns-clause-read
returns-clause-read c before line h = total before line h

pub returns-clause-not_both : goal.returns-clause-not_both
returns-clause-not_both c before after line step = step_has_no_cause before after line step

pub returns-clause-one : goal.returns-clause-one
returns-clause-one c before one other line step again = one_step before one other line step again
