use Rattle.std.proofs.Common.{take}
use Rattle.tc_hlt.proofs.GrowLaws.{IsTracedTo}
use Rattle.tc_hlt.proofs.rows.trace_front.Given as goal

abbrev pub invariant-loop-i : goal.invariant-loop-i
invariant-loop-i l = IsTracedTo l.initial.table l.table l.node (take l.i l.word) l.at
