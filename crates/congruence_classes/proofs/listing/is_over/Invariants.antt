use Rattle.std.proofs.Common.{take}
use Rattle.theory.specs.Word.{IsOver}
use Rattle.congruence_classes.proofs.listing.is_over.Given as goal

abbrev pub invariant-loop-place : goal.invariant-loop-place
invariant-loop-place l = IsOver l.letters (take l.place l.word)
