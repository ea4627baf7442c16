-- The bytes that a sink gains with an answer.
use Rattle.std.specs.Prelude.{ℕ, Bool, true, false, List}
use Rattle.problem.specs.declared.budgets.Budgets.{Budgets}
use Rattle.problem.specs.declared.kinds.Problem.{Problem}
use Rattle.query_lang.specs.declared.script.Query.{Query}
use Rattle.report_lines.specs.LineBytes.{AreBytesOf}
use Rattle.report.specs.declared.answers.Answered.{Answered}
use Rattle.report.specs.declared.answers.Answered.TheVariants.{Defined, Undecided}
use Rattle.query_answers.specs.Answer.{IsAnswer}

abbrev pub is_undecided : Answered → Bool
is_undecided Defined = false
is_undecided Undecided = true

-- the bytes of the answer of a query
abbrev pub AreAnswerBytes : Problem → Budgets → ℕ → Query → Answered → List ℕ → Type 0
AreAnswerBytes p budgets bound query answered =
    AreBytesOf (λ lines. IsAnswer p budgets bound query lines (is_undecided answered))
