use Rattle.std.proofs.Common.{◌≡◌, map, take}
use Rattle.sims_one.specs.Asked.{asked}
use Rattle.sims_one.specs.Fronts.{lists_in, part_tasks}
use Rattle.sims_one.proofs.batches.parts_of.Given as goal

abbrev pub invariant-loop-front : goal.invariant-loop-front
invariant-loop-front l = part_tasks l.parts.items ≡ map (λ t. (asked l.request, t)) (take l.front-index (lists_in l.fronts))
