use Rattle.std.proofs.Common.{subst}
use Rattle.problem.specs.declared.kinds.Problem.{Problem}
use Rattle.problem.specs.Problem.{SameClassOf}
use Rattle.theory.specs.ShortLex.{◌≺◌}
use Rattle.theory.specs.Class.{IsLeast}
use Rattle.theory.specs.Listing.{GoesOnOrEnds}
use Rattle.congruence.proofs.answers.next_of_elements.Goals as goal

pub returns-clause-goes_on : goal.returns-clause-goes_on
returns-clause-goes_on c = subst (λ (k : Problem). GoesOnOrEnds (IsLeast (SameClassOf k)) ◌≺◌) c.problem.ensures.is c.next_in.ensures.goes_on
