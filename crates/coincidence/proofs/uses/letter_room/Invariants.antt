use Rattle.std.proofs.Common.{◌≡◌, ℕ, ◌+◌, ◌-◌, length, map}
use Rattle.coincidence.specs.Uses.{groups_at}
use Rattle.coincidence.proofs.uses.letter_room.Given as goal

abbrev pub invariant-loop-alloc : goal.invariant-loop-alloc
invariant-loop-alloc l = (a : ℕ) → groups_at (map (λ v. v.items) l.letters.items) a ≡ groups_at (map (λ v. v.items) l.initial.letters.items) a

abbrev pub decreases-loop-alloc : goal.decreases-loop-alloc
decreases-loop-alloc l = (l.number + 1) - length l.letters.items
