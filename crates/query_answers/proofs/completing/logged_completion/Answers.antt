use Rattle.std.proofs.Common.{sym, ◌∙◌, subst}
use Rattle.query_answers.specs.Chains.{IsLogOf}
use Rattle.query_answers.proofs.ChainAnswers.{log_of}
use Rattle.query_answers.proofs.completing.logged_completion.Goals as goal

pub returns-in-Ok : goal.returns-in-Ok
returns-in-Ok c =
    subst (λ p. IsLogOf p c.args.length c.run.new.completion) (sym c.in-Presented.is)
    (log_of c.in-Presented.congruence c.args.length c.run.new.completion
    (c.in-Ok.ensures.presentation ∙ c.in_ok-completion.ensures.presentation ∙ c.in_ok-relations.ensures)
    (c.in-Ok.ensures.length ∙ c.in_ok-completion.ensures.length) (c.in-Ok.ensures.logged ∙ c.in_ok-completion.ensures.logged) c.in-Ok.ensures.ended)
