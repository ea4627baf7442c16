use Rattle.std.proofs.Common.{ap, subst, IfOk, MatchOption, Option}
use Rattle.std.specs.Option.{option_copied}
use Rattle.theory.specs.Word.{Word as Letters}
use Rattle.problem.specs.declared.kinds.Problem.{Problem}
use Rattle.problem.specs.Problem.{SameClassOf}
use Rattle.theory.specs.ShortLex.{◌≺◌}
use Rattle.theory.specs.Class.{IsLeast}
use Rattle.theory.specs.Listing.{IsLast, IsNext, GoesOnOrEnds}
use Rattle.congruence.specs.Solution.{Solution}
use Rattle.congruence.proofs.answers.Solved.next_after.Goals as goal

pub returns-clause-goes_on : goal.returns-clause-goes_on
returns-clause-goes_on c =
    subst (λ (k : Problem). GoesOnOrEnds (IsLeast (SameClassOf k)) ◌≺◌) (ap (λ (s : Solution). s.problem) c.self.view_is)
    c.next_after.ensures.goes_on

pub returns-clause-next : goal.returns-clause-next
returns-clause-next c =
    subst (λ (k : Problem). IfOk c.next_after.result (λ (next : Option Letters). MatchOption next
    (IsLast (IsLeast (SameClassOf k)) ◌≺◌ (option_copied c.args.after)) (IsNext (IsLeast (SameClassOf k)) ◌≺◌ (option_copied c.args.after))))
    (ap (λ (s : Solution). s.problem) c.self.view_is) c.next_after.ensures.next
