use Rattle.std.proofs.Common.{◌≤◌}
use Rattle.coincidence.specs.Holding.{HoldBefore, HoldFrom}
use Rattle.coincidence.specs.Table.{IsTable}
use Rattle.tc_hlt.specs.Tracing.{AreSidesAny, IsGrown}
use Rattle.tc_hlt.proofs.GrowLaws.{IsAlongFirst}
use Rattle.tc_hlt.proofs.rows.trace_sides.Given as goal

abbrev pub invariant-loop-i : goal.invariant-loop-i
invariant-loop-i l = record { table : IsTable l.table; within : l.held ≤ l.i; known : HoldFrom l.pairs l.table.graph l.node l.i l.known; held : HoldBefore l.pairs l.table.graph l.node l.held; grown : IsGrown (IsAlongFirst l.pairs l.i) (AreSidesAny l.pairs) l.initial.table l.table l.node }
