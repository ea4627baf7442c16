use Rattle.std.proofs.Common.{◌≡◌, ◌+◌, ◌*◌, ◌≤◌, length}
use Rattle.froidure_pin.specs.Found.{generated, words_of}
use Rattle.froidure_pin.specs.Growing.{AreLeftNumbers, IsGrown, IsLevel}
use Rattle.froidure_pin.specs.Kept.{lists_of}
use Rattle.froidure_pin.proofs.growth.Growth.add_left_rows.Given as goal

abbrev pub invariant-loop-number : goal.invariant-loop-number
invariant-loop-number g l = record {
  low : l.first ≤ l.number;
  kept : l.self ≡ record l.fn.self { left = l.self.left };
  grown : (unused : g.row.E.Denot) → IsGrown (generated g.E.Values.product g.E.PartialEq.eq l.generators.items unused) (lists_of l.self) (l.last + 1) 0;
  level : IsLevel (words_of l.self.factors.items) l.first l.last;
  rows : length l.self.left.items ≡ (l.number + 1) * length l.generators.items;
  lefts : (unused : g.row.E.Denot) → AreLeftNumbers (generated g.E.Values.product g.E.PartialEq.eq l.generators.items unused) (words_of l.self.factors.items) l.self.left.items;
}
