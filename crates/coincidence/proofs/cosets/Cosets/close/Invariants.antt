use Rattle.std.specs.Option.{ForSome}
use Rattle.coincidence.specs.Holding.{HoldBefore}
use Rattle.coincidence.proofs.ClosingLaws.{IsDrawing}
use Rattle.coincidence.proofs.LiveLaws.{left_in}
use Rattle.coincidence.proofs.cosets.Cosets.close.Given as goal

abbrev pub invariant-loop-node : goal.invariant-loop-node
invariant-loop-node l = record {
  drawing : IsDrawing l.congruence.congruence l.initial.self l.self l.fn.reach.at l.place;
  held : ForSome l.place (λ n. HoldBefore l.congruence.congruence.presentation.relations l.self.edges.graph n l.held);
}

abbrev pub decreases-loop-node : goal.decreases-loop-node
decreases-loop-node l = left_in l.congruence.congruence.presentation.letters l.self.edges.graph l.self.live.items
