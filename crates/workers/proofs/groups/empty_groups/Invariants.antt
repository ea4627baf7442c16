use Rattle.std.proofs.Common.{◌≡◌, ◌≤◌, [], All, length, vec_capacity}
use Rattle.workers.proofs.groups.empty_groups.Given as goal

abbrev pub invariant-loop : goal.invariant-loop
invariant-loop g l = (length l.all.items ≡ l.counter) × All (λ v. v.items ≡ []) l.all.items × All (λ v. l.count ≤ vec_capacity v) l.all.items
