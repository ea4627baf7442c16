use Rattle.std.proofs.Common.{◌≡◌, take}
use Rattle.sims_one.proofs.within.place_of.Given as goal

abbrev pub invariant-loop-i : goal.invariant-loop-i
invariant-loop-i l = take l.i l.front ≡ take l.i l.cursor
