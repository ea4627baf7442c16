use Rattle.std.proofs.Common.{subst}
use Rattle.report.specs.Answers.{WritesLines}
use Rattle.report.proofs.script_answers.write_answers.Goals as goal

pub write_all_answers-written-requires-clause-kept : goal.write_all_answers-written-requires-clause-kept
write_all_answers-written-requires-clause-kept g c κs within = c.new-state.ensures.kept c.args.script.now.problem

pub returns : goal.returns
returns g c =
    subst (λ bounds. WritesLines g.O.Sink bounds c.args.script.now.problem c.args.script.now.queries c.args.out.now c.write_all_answers-written.new.out c.write_all_answers-written.result)
    c.new-state.ensures.bounds c.write_all_answers-written.ensures
