use Rattle.std.proofs.Common.{◌≡◌, ℕ, ◌+◌, ◌-◌, length, get_or}
use Rattle.coincidence.proofs.seen.make_room.Given as goal

abbrev pub invariant-loop-masks : goal.invariant-loop-masks
invariant-loop-masks l = (n : ℕ) → get_or l.masks.items n 0 ≡ get_or l.initial.masks.items n 0

abbrev pub decreases-loop-masks : goal.decreases-loop-masks
decreases-loop-masks l = (l.number + 1) - length l.masks.items
