use Rattle.std.proofs.Common.{◌≡◌, ℕ, ◌+◌, ◌*◌, ◌<◌, length}
use Rattle.froidure_pin.specs.Found.{generated, words_of}
use Rattle.froidure_pin.specs.Growing.{AreLeftNumbers, IsGrown, ReachesAsLong}
use Rattle.froidure_pin.specs.Kept.{lists_of}
use Rattle.froidure_pin.proofs.growth.Growth.add_left_row.Given as goal

abbrev pub invariant-loop-letter : goal.invariant-loop-letter
invariant-loop-letter g l = record {
  within : l.number < length l.self.elements.keys;
  grown : (row : ℕ) × ((unused : g.row.E.Denot) → IsGrown (generated g.E.Values.product g.E.PartialEq.eq l.generators.items unused) (lists_of l.self) row 0);
  reach : ReachesAsLong (length l.generators.items) (words_of l.self.factors.items) (length l.self.right.items) l.number;
  kept : l.self ≡ record l.fn.self { left = l.self.left };
  rows : length l.self.left.items ≡ (l.number + 1) * length l.generators.items + l.letter;
  lefts : (unused : g.row.E.Denot) → AreLeftNumbers (generated g.E.Values.product g.E.PartialEq.eq l.generators.items unused) (words_of l.self.factors.items) l.self.left.items;
}
