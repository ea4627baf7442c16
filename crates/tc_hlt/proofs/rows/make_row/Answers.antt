use Rattle.std.proofs.Common.{sym, subst}
use Rattle.theory.specs.Hlt.{IsInRow}
use Rattle.theory.specs.Congruence.{Congruence}
use Rattle.coincidence.specs.Holding.{HoldBefore}
use Rattle.coincidence.specs.Table.{CosetTable, IsLive}
use Rattle.tc_hlt.specs.Tracing.{AreSidesAny}
use Rattle.tc_hlt.proofs.GrowLaws.{grown_live}
use Rattle.tc_hlt.proofs.RowLaws.{row_closed}
use Rattle.tc_hlt.proofs.rows.make_row.Goals as goal

pub close_at-requires-clause-node : goal.close_at-requires-clause-node
close_at-requires-clause-node c =
    subst (λ (t : CosetTable). IsLive t c.args.node) (sym c.in_ok-mark.ensures.ok)
    (grown_live (IsInRow c.args.table.now.congruence) (AreSidesAny c.args.table.now.congruence.presentation.relations) c.args.table.now c.trace_row.new.table c.args.node c.args.node c.requires.table c.trace_row.ensures.table c.in_ok-held.ensures.grown c.requires.node)

pub returns-clause-row : goal.returns-clause-row
returns-clause-row c =
    row_closed c.close_at.result c.args.table.now c.trace_row.new.table c.mark.new.self c.close_at.new.self c.args.node
    c.requires.table c.trace_row.ensures.table c.in_ok-held.ensures.grown c.in_ok-mark.ensures.ok c.close_at.ensures.congruence
    c.close_at.ensures.relates c.close_at.ensures.marks c.close_at.ensures.ok

pub close_at-requires-clause-held : goal.close_at-requires-clause-held
close_at-requires-clause-held c =
    subst (λ (t : CosetTable). HoldBefore t.congruence.presentation.relations t.graph c.args.node c.in_ok-held.held) (sym c.in_ok-mark.ensures.ok)
    (subst (λ (k : Congruence). HoldBefore k.presentation.relations c.trace_row.new.table.graph c.args.node c.in_ok-held.held) (sym c.trace_row.ensures.congruence) c.in_ok-held.ensures.held)
