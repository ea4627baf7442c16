use Rattle.std.proofs.Common.{◌≡◌}
use Rattle.theory.specs.ShortLex.{◌≺◌}
use Rattle.theory.specs.Class.{IsLeast}
use Rattle.problem.specs.Problem.{SameClassOf}
use Rattle.report_lines.specs.Lines.{word_line}
use Rattle.report_lines.proofs.PageLemmas.{IsBegun}
use Rattle.report.proofs.solved.write_page.Given as goal

abbrev pub invariant-loop : goal.invariant-loop
invariant-loop g l = record {
  kept : l.solved ≡ l.fn.solved;
  begun : IsBegun g.O.Sink (IsLeast (SameClassOf l.fn.solved.problem)) ◌≺◌ (word_line l.alphabet) l.fn.cursor l.cursor l.counter l.fn.sink l.sink;
}
