use Rattle.coincidence.proofs.RingLaws.{IsRingBelow}
use Rattle.coincidence.proofs.rings.comes_round.Given as goal

abbrev pub invariant-loop-place : goal.invariant-loop-place
invariant-loop-place l = IsRingBelow l.edges.graph l.edge.node l.edge.letter l.side l.place
