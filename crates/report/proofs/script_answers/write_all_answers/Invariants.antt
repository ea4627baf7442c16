use Rattle.std.proofs.Common.{take, Ok}
use Rattle.report.specs.Answers.{WritesLines, state_bounds}
use Rattle.report.specs.Kept.{KeepsOf, KeepsSettings}
use Rattle.report.proofs.script_answers.write_all_answers.Given as goal

abbrev pub invariant-loop-query : goal.invariant-loop-query
invariant-loop-query g l = record {
  kept : KeepsOf l.script.problem l.state;
  settings : KeepsSettings l.fn.state l.state;
  written : WritesLines g.O.Sink (state_bounds l.fn.state) l.script.problem (take l.query-index l.query-items) l.fn.out l.out (Ok l.undecided);
}
