use Rattle.std.proofs.Common.{◌≡◌, ◌-◌, ℕ, length}
use Rattle.theory.specs.Graph.{Graph}
use Rattle.coincidence.specs.Kept.{IsKept}
use Rattle.coincidence.proofs.order.Order.unmarked.Given as goal

abbrev pub invariant-loop-self : goal.invariant-loop-self
invariant-loop-self l = record {
  some : (k : ℕ) × (g : Graph) × IsKept k g l.marked.items l.self;
  kept : (k : ℕ) (g : Graph) → IsKept k g l.marked.items l.initial.self → IsKept k g l.marked.items l.self;
  steps : l.self.steps.items ≡ l.initial.self.steps.items;
  places : l.self.places.items ≡ l.initial.self.places.items;
  row : l.self.row ≡ l.initial.self.row;
  letter : l.self.letter ≡ l.initial.self.letter;
}

abbrev pub decreases-loop-self : goal.decreases-loop-self
decreases-loop-self l = length l.self.steps.items - l.self.done
