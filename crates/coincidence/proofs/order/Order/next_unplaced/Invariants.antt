use Rattle.std.proofs.Common.{ℕ, ◌<◌, ◌≤◌}
use Rattle.coincidence.specs.Kept.{LeadsToPlaced}
use Rattle.coincidence.proofs.order.Order.next_unplaced.Given as goal

abbrev pub invariant-loop-number : goal.invariant-loop-number
invariant-loop-number l = (a : ℕ) → l.self.letter ≤ a → a < l.number → LeadsToPlaced l.edges.graph l.self l.node a
