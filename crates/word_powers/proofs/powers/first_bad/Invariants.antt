use Rattle.word_powers.proofs.PowerPlaces.{IsAtPlace}
use Rattle.word_powers.proofs.powers.first_bad.Given as goal

abbrev pub invariant-loop-place : goal.invariant-loop-place
invariant-loop-place l = IsAtPlace l.alphabet l.text l.place l.depth l.last
