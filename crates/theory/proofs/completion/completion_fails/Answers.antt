use Rattle.theory.proofs.Completed.{completion_fails, side_too_long}
use Rattle.theory.proofs.completion.completion_fails.Goals as goal

pub returns-clause-overlap : goal.returns-clause-overlap
returns-clause-overlap c = completion_fails

pub returns-clause-length : goal.returns-clause-length
returns-clause-length c = side_too_long
