use Rattle.coincidence.specs.Replaced.{IsKnown, StaysInClass}
use Rattle.coincidence.proofs.replaced.representative.Given as goal

abbrev pub invariant-loop-replaced_by : goal.invariant-loop-replaced_by
invariant-loop-replaced_by l = record {
  replaced : IsKnown l.live.items l.replaced_by.items l.at;
  stays : StaysInClass l.live.items l.initial.replaced_by.items l.replaced_by.items l.node l.at;
}

abbrev pub decreases-loop-replaced_by : goal.decreases-loop-replaced_by
decreases-loop-replaced_by l = l.at
