use Rattle.std.proofs.Common.{ap, sym, subst, IfOk, MatchOption, Option}
use Rattle.std.specs.Option.{option_copied}
use Rattle.theory.specs.Word.{Word as Letters}
use Rattle.problem.specs.declared.kinds.Problem.{Problem}
use Rattle.problem.specs.Problem.{SameClassOf}
use Rattle.theory.specs.ShortLex.{◌≺◌}
use Rattle.theory.specs.Class.{IsLeast}
use Rattle.theory.specs.Listing.{IsLast, IsNext, GoesOnOrEnds}
use Rattle.congruence.specs.Classes.{problem_of}
use Rattle.congruence.proofs.answers.Classes.next_after.Goals as goal

pub returns-in-Cosets-clause-goes_on : goal.returns-in-Cosets-clause-goes_on
returns-in-Cosets-clause-goes_on c =
    subst (λ (k : Problem). GoesOnOrEnds (IsLeast (SameClassOf k)) ◌≺◌) (sym (ap problem_of c.in-Cosets.is)) c.next_after.ensures.goes_on

pub returns-in-Cosets-clause-next : goal.returns-in-Cosets-clause-next
returns-in-Cosets-clause-next c =
    subst (λ (k : Problem). IfOk c.next_after.result (λ (next : Option Letters). MatchOption next
    (IsLast (IsLeast (SameClassOf k)) ◌≺◌ (option_copied c.args.after)) (IsNext (IsLeast (SameClassOf k)) ◌≺◌ (option_copied c.args.after))))
    (sym (ap problem_of c.in-Cosets.is)) c.next_after.ensures.next

pub returns-in-Reduced-clause-goes_on : goal.returns-in-Reduced-clause-goes_on
returns-in-Reduced-clause-goes_on c =
    subst (λ (k : Problem). GoesOnOrEnds (IsLeast (SameClassOf k)) ◌≺◌) (sym (ap problem_of c.in-Reduced.is)) c.next_after-in-Reduced.ensures.goes_on

pub returns-in-Reduced-clause-next : goal.returns-in-Reduced-clause-next
returns-in-Reduced-clause-next c =
    subst (λ (k : Problem). IfOk c.next_after-in-Reduced.result (λ (next : Option Letters). MatchOption next
    (IsLast (IsLeast (SameClassOf k)) ◌≺◌ (option_copied c.args.after)) (IsNext (IsLeast (SameClassOf k)) ◌≺◌ (option_copied c.args.after))))
    (sym (ap problem_of c.in-Reduced.is)) c.next_after-in-Reduced.ensures.next

pub returns-in-Elements-clause-goes_on : goal.returns-in-Elements-clause-goes_on
returns-in-Elements-clause-goes_on c =
    subst (λ (k : Problem). GoesOnOrEnds (IsLeast (SameClassOf k)) ◌≺◌) (sym (ap problem_of c.in-Elements.is)) c.next_of_elements.ensures.goes_on

pub returns-in-Elements-clause-next : goal.returns-in-Elements-clause-next
returns-in-Elements-clause-next c =
    subst (λ (k : Problem). IfOk c.next_of_elements.result (λ (next : Option Letters). MatchOption next
    (IsLast (IsLeast (SameClassOf k)) ◌≺◌ (option_copied c.args.after)) (IsNext (IsLeast (SameClassOf k)) ◌≺◌ (option_copied c.args.after))))
    (sym (ap problem_of c.in-Elements.is)) c.next_of_elements.ensures.next
