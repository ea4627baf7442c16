use Rattle.std.proofs.Common.{subst}
use Rattle.std.specs.Option.{MatchOption, option_copied}
use Rattle.std.specs.Result.{IfOk}
use Rattle.theory.specs.ShortLex.{◌≺◌}
use Rattle.theory.specs.Listing.{GoesOnOrEnds, IsLast, IsNext}
use Rattle.reduced_automaton.specs.Frames.{FramedReading, IsFramed}
use Rattle.reduced_automaton.proofs.frames.Framed.next_after.Goals as goal

pub returns-clause-goes_on : goal.returns-clause-goes_on
returns-clause-goes_on c =
    let P : FramedReading → Type 0 = λ f. GoesOnOrEnds (IsFramed f.automaton f.frame) ◌≺◌ in
    subst P c.self.view_is c.next_by.ensures.goes_on

pub returns-clause-next : goal.returns-clause-next
returns-clause-next c =
    let P : FramedReading → Type 0 = λ f. IfOk c.next_by.result (λ next. MatchOption next
    (IsLast (IsFramed f.automaton f.frame) ◌≺◌ (option_copied c.args.after))
    (IsNext (IsFramed f.automaton f.frame) ◌≺◌ (option_copied c.args.after))) in
    subst P c.self.view_is c.next_by.ensures.next
