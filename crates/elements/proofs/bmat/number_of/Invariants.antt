use Rattle.std.proofs.Common.{◌≡◌, take}
use Rattle.elements.specs.Hashes.{bits_number}
use Rattle.elements.proofs.bmat.number_of.Given as goal

-- the bits so far
abbrev pub invariant-loop-bit : goal.invariant-loop-bit
invariant-loop-bit l = l.number ≡ bits_number (take l.bit-index l.bits)
