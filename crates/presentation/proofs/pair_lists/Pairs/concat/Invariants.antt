use Rattle.std.proofs.Common.{◌≡◌, ◌++◌, take}
use Rattle.presentation.proofs.pair_lists.Pairs.concat.Given as goal

abbrev pub invariant-loop-pair : goal.invariant-loop-pair
invariant-loop-pair l = l.all ≡ l.self ++ take l.pair-index l.pair-items
