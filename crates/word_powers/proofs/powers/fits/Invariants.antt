use Rattle.std.proofs.Common.{◌≤◌}
use Rattle.word_powers.proofs.PowerKept.{IsKept}
use Rattle.word_powers.proofs.powers.fits.Given as goal

abbrev pub invariant-loop-byte : goal.invariant-loop-byte
invariant-loop-byte l = record {
  kept : IsKept l.alphabet l.text l.byte-index l.len l.marks;
  short : l.len ≤ 4096;
}
