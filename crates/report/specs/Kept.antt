-- What a state keeps of a problem.
use Rattle.std.specs.Prelude.{◌≡◌, IfSome, IsSome, Some}
use Rattle.problem.specs.declared.kinds.Problem.{Problem}
use Rattle.theory.specs.declared.Relation.TheVariants.{H}
use Rattle.query_lang.specs.declared.script.Query.{Query}
use Rattle.query_lang.specs.declared.script.Query.TheVariants.{Green, Idempotents}
use Rattle.green.specs.Known.{HasNames}
use Rattle.congruence.specs.Verdicts.{IsVerdictOf}
use Rattle.report_lines.specs.declared.known.KnownElements.{KnownElements}
use Rattle.report_lines.specs.Known.{AreKnownOf, HasGreen, KeepsKnown}
use Rattle.query_answers.specs.Chains.{IsLogOf}
use Rattle.query_answers.specs.declared.awaited.Awaited.{Awaited}
use Rattle.query_answers.specs.declared.awaited.Awaited.TheVariants.{Nothing, Decision, Log}
use Rattle.report.specs.declared.state.State.{State}

-- the verdict is of the problem, and so are the completion, which logs and is at its end, and what
-- is known of elements
pub record KeepsOf (p : Problem) (state : State) : Type 0 where
  pub verdict : IfSome state.verdict (IsVerdictOf p state.budgets)
  pub completion : IfSome state.completion (IsLogOf p state.budgets.length)
  pub elements : AreKnownOf p state.elements

-- the state differs at most in what it keeps of the problem
pub record KeepsSettings (old new : State) : Type 0 where
  pub budgets : new.budgets ≡ old.budgets
  pub classes : new.classes ≡ old.classes
  pub workers : new.workers ≡ old.workers

-- what was found of the problem stays
pub record KeepsFound (old new : State) : Type 0 where
  pub verdict : IfSome old.verdict (λ verdict. new.verdict ≡ Some verdict)
  pub completion : IfSome old.completion (λ completion. new.completion ≡ Some completion)
  pub elements : KeepsKnown old.elements new.elements

-- what is waited for was found
abbrev pub HasFound : Awaited → State → Type 0
HasFound Nothing state = Unit {0}
HasFound Decision state = IsSome state.verdict
HasFound Log state = IsSome state.completion

-- what the answer of a query needs of elements is known
abbrev pub HasElements : Query → KnownElements → Type 0
HasElements (Green relation) known = HasGreen relation known
HasElements Idempotents known = HasNames H known.names
HasElements query known = Unit {0}
