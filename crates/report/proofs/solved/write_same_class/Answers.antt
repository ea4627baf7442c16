use Rattle.std.proofs.Common.{Bool, [], ◌∷◌, refl}
use Rattle.ports.proofs.WriteLemmas.{handed_on, refused}
use Rattle.problem.specs.declared.kinds.Problem.{Problem}
use Rattle.query_lang.specs.declared.script.Query.TheVariants as query
use Rattle.report_lines.specs.Lines.{equal_line}
use Rattle.query_answers.proofs.AnswerLemmas.{writes_lines, one_line}
use Rattle.report.proofs.SolvedLemmas.{element_counted, solved_equal}
use Rattle.report.proofs.solved.write_same_class.Goals as goal

pub equal-requires-clause-left : goal.equal-requires-clause-left
equal-requires-clause-left g c = element_counted c.args.solved.now.problem c.args.left.now c.requires.one_each c.requires.query.over.0

pub equal-requires-clause-right : goal.equal-requires-clause-right
equal-requires-clause-right g c = element_counted c.args.solved.now.problem c.args.right.now c.requires.one_each c.requires.query.over.1

pub returns-in_err-equal : goal.returns-in_err-equal
returns-in_err-equal g c bound = handed_on g.O.Sink _ _ _ _ c.from_residual.ensures.1 (refused g.O.Sink c.args.sink.now)

pub returns : goal.returns
returns g c bound =
    let p : Problem = c.args.solved.now.problem in
    let same : Bool = c.in_ok-equal.field-0 in
    let asked = query.Equal c.args.left.now c.args.right.now in
    writes_lines g.O.Sink p bound asked asked (equal_line same ∷ []) refl (solved_equal p p refl bound c.args.left.now c.args.right.now same c.in_ok-equal.ensures) _ _ _ _ (one_line (equal_line same)) c.write_equal.ensures.bytes
