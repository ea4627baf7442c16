use Rattle.std.proofs.Common.{take, length, Ok}
use Rattle.std.specs.List.{flat_map, range_with_len}
use Rattle.ports.specs.Writes.{WritesBytes}
use Rattle.report_lines.proofs.GraphLemmas.{row_line}
use Rattle.report_lines.proofs.graphs.write_cayley.Given as goal

abbrev pub invariant-loop-number : goal.invariant-loop-number
invariant-loop-number g l = WritesBytes g.O.Sink (flat_map (row_line l.problem l.tables) (take l.number (range_with_len 0 (length l.tables.words)))) l.fn.sink l.sink (Ok (tt {0}))
