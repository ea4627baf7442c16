use Rattle.std.proofs.Common.{◌≡◌, ◌++◌, flat_map}
use Rattle.sims_one.specs.Fronts.{lists_in}
use Rattle.sims_one.proofs.batches.add_tables.Given as goal

abbrev pub invariant-loop-part : goal.invariant-loop-part
invariant-loop-part l = lists_in l.tables.items ≡ lists_in l.fn.tables.items ++ flat_map (λ s. s.tables) l.yielded
