use Rattle.std.proofs.Common.{◌≡◌, ℕ, ◌+◌, ◌-◌, length, map}
use Rattle.coincidence.specs.Uses.{list_at}
use Rattle.coincidence.proofs.uses.make_room.Given as goal

abbrev pub invariant-loop-alloc : goal.invariant-loop-alloc
invariant-loop-alloc l = (a : ℕ) → list_at (map (λ v. v.items) l.lists.items) a ≡ list_at (map (λ v. v.items) l.initial.lists.items) a

abbrev pub decreases-loop-alloc : goal.decreases-loop-alloc
decreases-loop-alloc l = (l.number + 1) - length l.lists.items
