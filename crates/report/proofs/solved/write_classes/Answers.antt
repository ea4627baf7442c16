use Rattle.std.proofs.Common.{subst}
use Rattle.ports.specs.Writes.{Writes}
use Rattle.ports.proofs.WriteLemmas.{handed_on, refused}
use Rattle.theory.specs.ShortLex.{◌≺◌}
use Rattle.theory.specs.Class.{IsLeast}
use Rattle.problem.specs.Problem.{SameClassOf}
use Rattle.report_lines.specs.LineBytes.{AreBytesOf}
use Rattle.report_lines.specs.Lines.{word_line}
use Rattle.report_lines.specs.Pages.{ArePageLines}
use Rattle.report.proofs.solved.write_classes.Goals as goal

pub returns-in_err-cursor-clause-written : goal.returns-in_err-cursor-clause-written
returns-in_err-cursor-clause-written g c = handed_on g.O.Sink _ _ _ _ c.from_residual.ensures.1 (refused g.O.Sink c.args.sink.now)

pub returns-clause-written : goal.returns-clause-written
returns-clause-written g c =
    subst (λ cursor. Writes g.O.Sink (λ _. AreBytesOf (ArePageLines (IsLeast (SameClassOf c.args.solved.now.problem)) ◌≺◌ (word_line c.args.alphabet.now) cursor c.args.count)) c.args.sink.now c.write_page-written.new.sink c.write_page-written.result)
    c.in_ok-cursor.ensures c.write_page-written.ensures.written
