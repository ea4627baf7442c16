use Rattle.word_powers.proofs.PowerKept.{IsBuilt}
use Rattle.word_powers.proofs.powers.build.Given as goal

abbrev pub invariant-loop-byte : goal.invariant-loop-byte
invariant-loop-byte l = IsBuilt l.alphabet l.text l.byte-index l.word l.marks
