use Rattle.std.proofs.Common.{◌≡◌, ◌<◌, ℕ, length, get_or, None}
use Rattle.cells.proofs.flat.empty.Given as goal

abbrev pub invariant-loop-place : goal.invariant-loop-place
invariant-loop-place l = (length l.entries.items ≡ length l.initial.entries.items) × ((i : ℕ) → i < l.place → get_or l.entries.items i None ≡ None)
