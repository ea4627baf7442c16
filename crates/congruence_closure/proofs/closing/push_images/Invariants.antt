use Rattle.std.proofs.Common.{◌≡◌, ◌+◌, ◌++◌, length, All}
use Rattle.congruence_closure.specs.Maps.{AreIn}
use Rattle.congruence_closure.specs.Closing.{images}
use Rattle.congruence_closure.proofs.closing.push_images.Given as goal

abbrev pub invariant-loop-map : goal.invariant-loop-map
invariant-loop-map g l = record {
  images : l.waiting.items ≡ l.fn.waiting.items ++ images (g.M.Maps.maps l.maps) l.left l.right l.map;
  count : length l.waiting.items ≡ length l.fn.waiting.items + l.map;
  within : All (AreIn (g.M.Maps.maps l.maps).bound) l.fn.waiting.items → All (AreIn (g.M.Maps.maps l.maps).bound) l.waiting.items;
}
