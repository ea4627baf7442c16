use Rattle.std.proofs.Common.{◌≡◌, take}
use Rattle.presentation.proofs.pair_lists.Pairs.copy.Given as goal

abbrev pub invariant-loop-pair : goal.invariant-loop-pair
invariant-loop-pair l = l.copy ≡ take l.pair-index l.pair-items
