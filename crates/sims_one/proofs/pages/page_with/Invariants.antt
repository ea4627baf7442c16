use Rattle.std.proofs.Common.{◌≡◌, map, take}
use Rattle.theory.specs.LowIndex.{graph_of}
use Rattle.sims_one.specs.Targets.{table_of}
use Rattle.sims_one.specs.Fronts.{lists_in}
use Rattle.sims_one.proofs.pages.page_with.Given as goal

abbrev pub invariant-loop-i : goal.invariant-loop-i
invariant-loop-i l = l.tables.items ≡ map (λ u. graph_of (table_of l.request.presentation.now.presentation.letters u)) (take l.i (lists_in l.found))
