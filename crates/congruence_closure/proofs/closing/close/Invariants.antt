use Rattle.std.proofs.Common.{◌≡◌, ℕ, ◌+◌, ◌*◌, List, length, All}
use Rattle.std.specs.List.{sum}
use Rattle.congruence_closure.specs.Labels.{AreBelow}
use Rattle.congruence_closure.specs.Maps.{AreIn}
use Rattle.congruence_closure.specs.Closing.{IsClosing}
use Rattle.congruence_closure.proofs.closing.close.Given as goal

abbrev pub invariant-loop-left : goal.invariant-loop-left
invariant-loop-left g l = record {
  count : length l.parents.items ≡ (g.M.Maps.maps l.maps).bound;
  below : AreBelow l.parents.items;
  within : All (AreIn (g.M.Maps.maps l.maps).bound) l.waiting.items;
  closing : (pairs : List (ℕ × ℕ)) → IsClosing (g.M.Maps.maps l.maps) pairs l.fn.parents.items l.fn.waiting.items
      → IsClosing (g.M.Maps.maps l.maps) pairs l.parents.items l.waiting.items;
}

-- with each merging a parent becomes less, and so much may wait more
abbrev pub decreases-loop-left : goal.decreases-loop-left
decreases-loop-left g l = sum l.parents.items * ((g.M.Maps.maps l.maps).count + 1) + length l.waiting.items
