use Rattle.std.proofs.Common.{◌≤◌, length}
use Rattle.froidure_pin.specs.Found.{generated, words_of}
use Rattle.froidure_pin.specs.Growing.{IsGrown}
use Rattle.froidure_pin.specs.Kept.{lists_of}
use Rattle.froidure_pin.proofs.Beginning.{AreSingle}
use Rattle.froidure_pin.proofs.products.Enumerator.take_generators.Given as goal

abbrev pub invariant-loop-letter : goal.invariant-loop-letter
invariant-loop-letter g l = record {
  few : length l.growth.elements.keys ≤ l.self.bound;
  grown : (unused : g.row.E.Denot) → IsGrown (generated g.E.Values.product g.E.PartialEq.eq l.self.generators.now.items unused) (lists_of l.growth) 0 l.letter;
  single : AreSingle (words_of l.growth.factors.items);
}
