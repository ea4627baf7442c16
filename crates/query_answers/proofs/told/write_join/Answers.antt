use Rattle.theory.specs.Lattice.{Join}
use Rattle.report_lines.specs.Lines.{join_line}
use Rattle.query_answers.proofs.TableAnswers.{table_told}
use Rattle.query_answers.proofs.told.write_join.Goals as goal

pub returns : goal.returns
returns g c k both = table_told g.O.Sink join_line k (Join k c.args.s.now c.args.t.now) c.in_ok-table.table (c.in_ok-table.ensures k both) _ _ _ c.write_named.ensures
