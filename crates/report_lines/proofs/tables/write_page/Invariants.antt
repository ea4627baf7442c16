use Rattle.std.proofs.Common.{take, Ok}
use Rattle.std.specs.List.{flat_map}
use Rattle.ports.specs.Writes.{WritesBytes}
use Rattle.report_lines.specs.Lines.{graph_line}
use Rattle.report_lines.proofs.tables.write_page.Given as goal

abbrev pub invariant-loop-table : goal.invariant-loop-table
invariant-loop-table g l =
    WritesBytes g.O.Sink (flat_map graph_line (take l.table-index l.page.tables.items)) l.fn.sink l.sink (Ok (tt {0}))
