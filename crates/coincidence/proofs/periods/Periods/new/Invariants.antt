use Rattle.coincidence.proofs.UsesLaws.{ArePeriodsTo}
use Rattle.coincidence.proofs.periods.Periods.new.Given as goal

abbrev pub invariant-loop-number : goal.invariant-loop-number
invariant-loop-number l = ArePeriodsTo l.second l.pairs l.counts.items l.number
