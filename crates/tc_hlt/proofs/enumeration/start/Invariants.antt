use Rattle.tc_hlt.proofs.StartLaws.{IsStartedTo}
use Rattle.tc_hlt.proofs.enumeration.start.Given as goal

abbrev pub invariant-loop-i : goal.invariant-loop-i
invariant-loop-i l = IsStartedTo l.table l.congruence.congruence l.i
