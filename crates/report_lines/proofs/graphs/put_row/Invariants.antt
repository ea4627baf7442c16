use Rattle.std.proofs.Common.{◌≡◌, ◌++◌}
use Rattle.cayley.specs.Tables.{edge}
use Rattle.report_lines.specs.Lines.{numbers_text}
use Rattle.report_lines.proofs.graphs.put_row.Given as goal

abbrev pub invariant-loop-letter : goal.invariant-loop-letter
invariant-loop-letter l = l.line ≡ l.fn.line ++ numbers_text l.letter (edge l.rows l.row)
