use Rattle.std.proofs.Common.{ℕ, true≢false, refl, sym, ◌∙◌, subst, IfSome}
use Rattle.problem.specs.declared.budgets.Budgets.{Budgets}
use Rattle.problem.specs.declared.kinds.Problem.{Problem}
use Rattle.report_lines.specs.Lines.{unlogged_line}
use Rattle.report.specs.declared.answers.Answered.TheVariants as answered
use Rattle.query_answers.specs.declared.awaited.Awaited.TheVariants.{Log}
use Rattle.query_answers.specs.Chains.{IsLogOf}
use Rattle.report.proofs.AnswerBytes.{comes_about, defined_told, left_undecided, line_told}
use Rattle.query_answers.proofs.ChainAnswers.{logged_comes, logged_fails}
use Rattle.report.proofs.answers.write_completed.Goals as goal

pub returns-then-is_decided : goal.returns-then-is_decided
returns-then-is_decided g c =
    let p : Problem = c.args.problem.now in
    let b : Budgets = c.args.state.now.budgets in
    let bound : ℕ = c.args.state.now.classes in
    let log = subst (λ o. IfSome o (IsLogOf p b.length)) c.in-Some.ensures c.requires.kept.completion in
    let comes = comes_about p b c.args.query.now Log c.requires.waits (logged_comes p b.length c.in-Some.completion.now log (c.is_decided.ensures.0 c.if-is_decided.true)) in
    defined_told g.O.Sink p b bound c.args.query.now c.args.sink.now c.write_logged.new.sink comes bound refl c.write_logged.result c.and.result c.and.ensures (c.write_logged.ensures bound)

pub returns-else-is_decided : goal.returns-else-is_decided
returns-else-is_decided g c =
    let p : Problem = c.args.problem.now in
    let b : Budgets = c.args.state.now.budgets in
    let bound : ℕ = c.args.state.now.classes in
    let log = subst (λ o. IfSome o (IsLogOf p b.length)) c.in-Some.ensures c.requires.kept.completion in
    let fails = logged_fails p b.length c.in-Some.completion.now log (λ e. true≢false (sym (c.is_decided.ensures.1 e) ∙ c.if-is_decided.false)) in
    let left = left_undecided p b bound c.args.query.now Log c.requires.waits fails in
    line_told g.O.Sink p b bound c.args.query.now c.args.sink.now c.write_all.new.sink answered.Undecided unlogged_line left c.write_all.result c.and-else-is_decided.result c.and-else-is_decided.ensures c.write_all.ensures.bytes
