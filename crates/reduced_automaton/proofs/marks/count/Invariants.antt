use Rattle.std.proofs.Common.{◌≡◌, take}
use Rattle.reduced_automaton.specs.Framings.{count_marked}
use Rattle.reduced_automaton.proofs.marks.count.Given as goal

abbrev pub invariant-loop-mark : goal.invariant-loop-mark
invariant-loop-mark l = l.count ≡ count_marked (take l.mark-index l.marks)
