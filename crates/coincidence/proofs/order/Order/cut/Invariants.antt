use Rattle.std.proofs.Common.{ℕ, ◌<◌, List, Bool, length}
use Rattle.theory.specs.Graph.{Graph}
use Rattle.coincidence.specs.Kept.{IsKept, IsPlaced, IsOfGraph}
use Rattle.coincidence.proofs.order.Order.cut.Given as goal

abbrev pub invariant-loop-self : goal.invariant-loop-self
invariant-loop-self l = record {
  some : IsOfGraph l.self;
  kept : (k : ℕ) (g : Graph) (marked : List Bool) → IsKept k g marked l.initial.self → IsKept k g marked l.self;
  places : (n : ℕ) → IsPlaced l.self n → IsPlaced l.initial.self n;
  inside : l.lost < length l.self.places.items;
}

abbrev pub decreases-loop-self : goal.decreases-loop-self
decreases-loop-self l = length l.self.steps.items
