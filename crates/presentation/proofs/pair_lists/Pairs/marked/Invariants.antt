use Rattle.std.proofs.Common.{◌≡◌, take}
use Rattle.theory.specs.Marked.{marked_pairs}
use Rattle.presentation.proofs.pair_lists.Pairs.marked.Given as goal

abbrev pub invariant-loop-pair : goal.invariant-loop-pair
invariant-loop-pair l = l.marked ≡ marked_pairs l.kind l.marker (take l.pair-index l.pair-items)
