use Rattle.congruence_classes.specs.ClassLists.{AreNumberedWords}
use Rattle.congruence_classes.proofs.cosets.numbered.Given as goal

abbrev pub invariant-loop-word : goal.invariant-loop-word
invariant-loop-word l = AreNumberedWords l.yielded l.pairs.items
