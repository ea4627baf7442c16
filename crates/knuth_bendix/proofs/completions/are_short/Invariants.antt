use Rattle.std.proofs.Common.{◌≤◌, length}
use Rattle.std.specs.List.{AllWithin}
use Rattle.knuth_bendix.proofs.completions.are_short.Given as goal

abbrev pub invariant-loop-place : goal.invariant-loop-place
invariant-loop-place l = AllWithin (λ r. (length r.0 ≤ l.bound) × (length r.1 ≤ l.bound)) l.relations 0 l.place
