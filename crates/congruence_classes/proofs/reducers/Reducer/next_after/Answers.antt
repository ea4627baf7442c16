use Rattle.std.proofs.Common.{sym, subst, IfOk, MatchOption, Option}
use Rattle.std.specs.Option.{option_copied}
use Rattle.theory.specs.Word.{Word as Letters}
use Rattle.theory.specs.ShortLex.{◌≺◌}
use Rattle.theory.specs.Listing.{IsLast, IsNext, GoesOnOrEnds}
use Rattle.congruence_classes.specs.declared.reducers.Reducer.{Reducer}
use Rattle.congruence_classes.specs.Rewriting.{IsReducedIn}
use Rattle.congruence_classes.proofs.reducers.Reducer.next_after.Goals as goal

pub returns-in-Plain-clause-goes_on : goal.returns-in-Plain-clause-goes_on
returns-in-Plain-clause-goes_on c =
    subst (λ (r : Reducer). GoesOnOrEnds (IsReducedIn r) ◌≺◌) (sym c.in-Plain.is) c.next_after.ensures.goes_on

pub returns-in-Plain-clause-next : goal.returns-in-Plain-clause-next
returns-in-Plain-clause-next c =
    subst (λ (r : Reducer). IfOk c.next_after.result (λ (next : Option Letters). MatchOption next
    (IsLast (IsReducedIn r) ◌≺◌ (option_copied c.args.after)) (IsNext (IsReducedIn r) ◌≺◌ (option_copied c.args.after))))
    (sym c.in-Plain.is) c.next_after.ensures.next

pub returns-in-Marked-clause-goes_on : goal.returns-in-Marked-clause-goes_on
returns-in-Marked-clause-goes_on c =
    subst (λ (r : Reducer). GoesOnOrEnds (IsReducedIn r) ◌≺◌) (sym c.in-Marked.is) c.next_after-in-Marked.ensures.goes_on

pub returns-in-Marked-clause-next : goal.returns-in-Marked-clause-next
returns-in-Marked-clause-next c =
    subst (λ (r : Reducer). IfOk c.next_after-in-Marked.result (λ (next : Option Letters). MatchOption next
    (IsLast (IsReducedIn r) ◌≺◌ (option_copied c.args.after)) (IsNext (IsReducedIn r) ◌≺◌ (option_copied c.args.after))))
    (sym c.in-Marked.is) c.next_after-in-Marked.ensures.next
