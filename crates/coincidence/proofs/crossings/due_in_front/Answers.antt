use Rattle.std.proofs.Common.{[]}
use Rattle.coincidence.proofs.crossings.due_in_front.Goals as goal

pub due_at_fronts-requires-clause-within : goal.due_at_fronts-requires-clause-within
due_at_fronts-requires-clause-within c = λ i p h. (c.requires.places i p ([], []) h).0
