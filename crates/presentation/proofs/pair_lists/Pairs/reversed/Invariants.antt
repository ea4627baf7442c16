use Rattle.std.proofs.Common.{◌≡◌, take}
use Rattle.theory.specs.Word.{reversed_pairs}
use Rattle.presentation.proofs.pair_lists.Pairs.reversed.Given as goal

abbrev pub invariant-loop-pair : goal.invariant-loop-pair
invariant-loop-pair l = l.reversed ≡ reversed_pairs (take l.pair-index l.pair-items)
