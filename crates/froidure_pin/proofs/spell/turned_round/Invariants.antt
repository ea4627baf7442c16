use Rattle.std.proofs.Common.{◌≡◌, ◌++◌, length, reverse}
use Rattle.froidure_pin.proofs.spell.turned_round.Given as goal

abbrev pub invariant-loop-letter : goal.invariant-loop-letter
invariant-loop-letter l = l.word ++ reverse l.back.items ≡ reverse l.fn.back.items

abbrev pub decreases-loop-letter : goal.decreases-loop-letter
decreases-loop-letter l = length l.back.items
