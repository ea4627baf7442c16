use Rattle.std.proofs.Common.{◌+◌, ◌≤◌, length}
use Rattle.froidure_pin.specs.Found.{generated}
use Rattle.froidure_pin.specs.Growing.{IsMultiplied, with_steps}
use Rattle.froidure_pin.specs.Kept.{lists_of}
use Rattle.froidure_pin.proofs.products.Enumerator.take_products.Given as goal

abbrev pub invariant-loop-letter : goal.invariant-loop-letter
invariant-loop-letter g l = record {
  few : length l.growth.elements.keys ≤ l.self.bound;
  counted : l.fn.steps ≤ l.steps;
  most : l.steps ≤ l.fn.steps + l.letter;
  taken : (unused : g.row.E.Denot) → IsMultiplied (generated g.E.Values.product g.E.PartialEq.eq l.self.generators.now.items unused) l.self.bound (with_steps (lists_of l.fn.growth) l.fn.steps) (with_steps (lists_of l.growth) l.steps) l.number l.letter;
}
