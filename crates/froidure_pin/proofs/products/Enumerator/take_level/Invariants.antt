use Rattle.std.proofs.Common.{◌+◌, ◌*◌, ◌≤◌, length}
use Rattle.froidure_pin.specs.Found.{generated}
use Rattle.froidure_pin.specs.Growing.{IsWithin, KeepsCount}
use Rattle.froidure_pin.specs.Kept.{lists_of}
use Rattle.froidure_pin.proofs.products.Enumerator.take_level.Given as goal

abbrev pub invariant-loop-number : goal.invariant-loop-number
invariant-loop-number g l = record {
  few : length l.growth.elements.keys ≤ l.self.bound;
  counted : l.fn.steps ≤ l.steps;
  most : l.steps + l.first * length l.self.generators.now.items ≤ l.fn.steps + l.number * length l.self.generators.now.items;
  low : l.first ≤ l.number;
  within : (unused : g.row.E.Denot) → IsWithin (generated g.E.Values.product g.E.PartialEq.eq l.self.generators.now.items unused) (lists_of l.growth) l.first l.last l.number;
  count : (unused : g.row.E.Denot) → KeepsCount (generated g.E.Values.product g.E.PartialEq.eq l.self.generators.now.items unused) (lists_of l.fn.growth) (lists_of l.growth) l.fn.steps l.steps;
}
