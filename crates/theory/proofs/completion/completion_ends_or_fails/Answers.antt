use Rattle.theory.proofs.EndsOrFails.{ends_or_fails}
use Rattle.theory.proofs.completion.completion_ends_or_fails.Goals as goal

pub returns : goal.returns
returns c = ends_or_fails
