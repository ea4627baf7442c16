use Rattle.std.proofs.Common.{List, ℕ, [], ◌∷◌, refl}
use Rattle.ports.proofs.WriteLemmas.{handed_on, refused}
use Rattle.problem.specs.declared.kinds.Problem.{Problem}
use Rattle.query_lang.specs.declared.script.Query.TheVariants as query
use Rattle.report_lines.specs.Lines.{count_line, over_line, infinite_line}
use Rattle.query_answers.proofs.AnswerLemmas.{writes_lines, one_line}
use Rattle.report.proofs.SolvedLemmas.{solved_count, solved_infinite, solved_over}
use Rattle.report.proofs.solved.write_index.Goals as goal

pub returns-in_err-count-clause-written : goal.returns-in_err-count-clause-written
returns-in_err-count-clause-written g c = handed_on g.O.Sink _ _ _ _ c.from_residual.ensures.1 (refused g.O.Sink c.args.sink.now)

pub returns-in-Finite-clause-written : goal.returns-in-Finite-clause-written
returns-in-Finite-clause-written g c =
    let p : Problem = c.args.solved.now.problem in
    let line : List ℕ = count_line c.in-Finite.count in
    writes_lines g.O.Sink p c.args.bound query.Index query.Index (line ∷ []) refl (solved_count p p refl c.args.bound c.in_ok-count.field-0 c.in-Finite.count c.in-Finite.is c.in_ok-count.ensures.index) _ _ _ _ (one_line line) c.write_count.ensures

pub returns-in-Over-clause-written : goal.returns-in-Over-clause-written
returns-in-Over-clause-written g c =
    let p : Problem = c.args.solved.now.problem in
    let line : List ℕ = over_line c.args.bound in
    writes_lines g.O.Sink p c.args.bound query.Index query.Index (line ∷ []) refl (solved_over p p refl c.args.bound c.in_ok-count.field-0 c.in-Over.is c.in_ok-count.ensures.index) _ _ _ _ (one_line line) c.write_over.ensures

pub returns-in-Infinite-clause-written : goal.returns-in-Infinite-clause-written
returns-in-Infinite-clause-written g c =
    let p : Problem = c.args.solved.now.problem in
    writes_lines g.O.Sink p c.args.bound query.Index query.Index (infinite_line ∷ []) refl (solved_infinite p p refl c.args.bound c.in_ok-count.field-0 c.in-Infinite.is c.in_ok-count.ensures.index) _ _ _ _ (one_line infinite_line) c.write_infinite.ensures.bytes
