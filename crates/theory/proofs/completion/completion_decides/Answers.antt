use Rattle.theory.proofs.Completed.{completion_decides}
use Rattle.theory.proofs.completion.completion_decides.Goals as goal

pub returns : goal.returns
returns c = completion_decides
