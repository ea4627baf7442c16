use Rattle.std.proofs.Common.{◌≡◌}
use Rattle.knuth_bendix.specs.Marks.{bits_up_to}
use Rattle.knuth_bendix.proofs.marks.sign.Given as goal

abbrev pub invariant-loop-place : goal.invariant-loop-place
invariant-loop-place l = l.bits ≡ bits_up_to l.word l.place
