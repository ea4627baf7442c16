use Rattle.std.proofs.Common.{◌≡◌, List, ℕ, take, drop}
use Rattle.coincidence.proofs.periods.repeats.Given as goal

abbrev pub invariant-loop-i : goal.invariant-loop-i
invariant-loop-i l = ◌≡◌ {A = List ℕ} (take l.i (drop l.from l.word)) (take l.i (drop l.to l.word))
