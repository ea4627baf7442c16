use Rattle.std.proofs.Common.{subst}
use Rattle.theory.specs.ShortLex.{◌≺◌}
use Rattle.theory.specs.Class.{IsLeast}
use Rattle.theory.specs.Listing.{GoesOnOrEnds}
use Rattle.problem.specs.declared.kinds.Problem.{Problem}
use Rattle.problem.specs.Problem.{SameClassOf}
use Rattle.congruence_classes.proofs.cosets.CosetClasses.next_after.Goals as goal

pub returns-clause-goes_on : goal.returns-clause-goes_on
returns-clause-goes_on c = subst (λ (p : Problem). GoesOnOrEnds (IsLeast (SameClassOf p)) ◌≺◌) c.self.view_is c.next_in.ensures.goes_on
