use Rattle.std.proofs.Common.{◌≡◌, ◌<◌, ◌≤◌, List, length, get_or, ap, subst, ◌∙◌, arith}
use Rattle.theory.specs.Graph.{Graph}
use Rattle.ports.proofs.WriteLemmas.{handed_on, same_bytes}
use Rattle.report_lines.specs.Lines.{end_line, graph_line}
use Rattle.report_lines.proofs.ListingLemmas.{line_begun, lines_done, listing_begun, listing_ended}
use Rattle.report_lines.proofs.tables.write_page.Goals as goal

pub returns-in_err-write_table : goal.returns-in_err-write_table
returns-in_err-write_table g c =
    let tables : List Graph = c.args.page.now.tables.items in
    let same : c.deref-table-items.result.now ≡ tables = c.deref-table-items.ensures.value in
    handed_on g.O.Sink _ _ _ _ c.from_residual.ensures.1
    (listing_begun g.O.Sink graph_line tables (end_line c.args.page.now.more) _ _ _
    (line_begun graph_line tables g.O.Sink c.loop-table.table-index _ c.loop-table.sink c.loop-table.invariant c.table-item.result _ _
    (subst (λ ts. c.loop-table.table-index < length ts) same c.loop-table-test.true)
    (same_bytes g.O.Sink _ _ _ _ _ (ap graph_line (c.table-item.is ∙ ap (λ ts. get_or ts c.loop-table.table-index c.table-item.result) same)) c.in_err-write_table.ensures)))

pub returns : goal.returns
returns g c =
    let tables : List Graph = c.args.page.now.tables.items in
    let same : c.deref-table-items.result.now ≡ tables = c.deref-table-items.ensures.value in
    listing_ended g.O.Sink graph_line tables (end_line c.args.page.now.more) _ c.loop-table.sink _ _
    (lines_done graph_line tables g.O.Sink c.loop-table.table-index _ _ c.loop-table.invariant
    (subst (λ ts. length ts ≤ c.loop-table.table-index) same (omega (arith, c.loop-table-test.false)))) c.write_end.ensures.bytes
