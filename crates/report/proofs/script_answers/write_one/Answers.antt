use Rattle.ports.proofs.WriteLemmas.{handed_on}
use Rattle.report.specs.Answers.{state_bounds}
use Rattle.report.proofs.AnswersLaws.{one_begun, one_written}
use Rattle.report.proofs.script_answers.write_one.Goals as goal

pub returns-in_err-answered-clause-written : goal.returns-in_err-answered-clause-written
returns-in_err-answered-clause-written g c =
    handed_on g.O.Sink _ _ _ _ c.from_residual.ensures.1
    (one_begun (state_bounds c.args.state.now) c.args.script.now.problem g.O.Sink c.args.query.now _ _ _ c.in_err-answered.ensures.written)

pub returns-clause-written : goal.returns-clause-written
returns-clause-written g c =
    one_written (state_bounds c.args.state.now) c.args.script.now.problem g.O.Sink c.args.query.now _ _ c.in_ok-answered.answered _ c.left_undecided.ensures c.in_ok-answered.ensures.written
