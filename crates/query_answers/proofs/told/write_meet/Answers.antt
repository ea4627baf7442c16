use Rattle.theory.specs.Lattice.{Meet}
use Rattle.report_lines.specs.Lines.{meet_line}
use Rattle.query_answers.proofs.TableAnswers.{table_told}
use Rattle.query_answers.proofs.told.write_meet.Goals as goal

pub returns : goal.returns
returns g c k both = table_told g.O.Sink meet_line k (Meet c.args.s.now c.args.t.now) c.in_ok-table.table (c.in_ok-table.ensures k both) _ _ _ c.write_named.ensures
