use Rattle.std.proofs.Common.{◌+◌, ◌*◌, ◌-◌, ◌≤◌, length}
use Rattle.froidure_pin.specs.Found.{generated}
use Rattle.froidure_pin.specs.Growing.{AreFoundFrom, with_steps}
use Rattle.froidure_pin.specs.Kept.{lists_of}
use Rattle.froidure_pin.proofs.products.Enumerator.take_all.Given as goal

abbrev pub invariant-loop-first : goal.invariant-loop-first
invariant-loop-first g l = record {
  few : length l.growth.elements.keys ≤ l.self.bound;
  reached : l.first ≤ length l.growth.elements.keys;
  counted : l.fn.steps ≤ l.steps;
  most : l.steps ≤ l.fn.steps + l.first * length l.self.generators.now.items;
  found : (unused : g.row.E.Denot) → AreFoundFrom (generated g.E.Values.product g.E.PartialEq.eq l.self.generators.now.items unused) l.self.bound (with_steps (lists_of l.growth) l.steps) l.fn.steps l.first;
}

abbrev pub decreases-loop-first : goal.decreases-loop-first
decreases-loop-first g l = l.self.bound - l.first
