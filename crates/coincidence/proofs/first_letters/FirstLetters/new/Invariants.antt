use Rattle.coincidence.proofs.StartLaws.{AreFirstLettersTo}
use Rattle.coincidence.proofs.first_letters.FirstLetters.new.Given as goal

abbrev pub invariant-loop-number : goal.invariant-loop-number
invariant-loop-number l = AreFirstLettersTo l.pairs l.every l.letters.items l.number
