use Rattle.std.proofs.Common.{◌≡◌, ◌+◌, ◌≤◌, ◌++◌, length, reverse}
use Rattle.froidure_pin.specs.Found.{parent, words_of}
use Rattle.froidure_pin.proofs.spell.letters_back.Given as goal

-- what is left to spell, and the letters so far
abbrev pub invariant-loop-at : goal.invariant-loop-at
invariant-loop-at l = record {
  within : l.at ≤ length l.factors.items;
  spelled : parent (words_of l.factors.items) l.at ++ reverse l.back.items ≡ parent (words_of l.factors.items) (l.number + 1);
}

abbrev pub decreases-loop-at : goal.decreases-loop-at
decreases-loop-at l = l.at
