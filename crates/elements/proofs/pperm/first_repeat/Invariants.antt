use Rattle.elements.proofs.Marks.{Marks}
use Rattle.elements.proofs.pperm.first_repeat.Given as goal

-- the images so far are marked
abbrev pub invariant-loop-i : goal.invariant-loop-i
invariant-loop-i l = Marks l.images l.seen.items l.i
