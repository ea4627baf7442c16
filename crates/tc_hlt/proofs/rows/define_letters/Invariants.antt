use Rattle.theory.specs.Hlt.{IsExtension}
use Rattle.coincidence.specs.Table.{IsTable}
use Rattle.tc_hlt.specs.Tracing.{IsGrown, NoDrawing}
use Rattle.tc_hlt.proofs.rows.define_letters.Given as goal

abbrev pub invariant-loop-number : goal.invariant-loop-number
invariant-loop-number l = record { table : IsTable l.table; grown : IsGrown (IsExtension l.number) NoDrawing l.initial.table l.table l.node }
