use Rattle.std.proofs.Common.{◌≡◌, take}
use Rattle.elements.specs.Digits.{optional_digits}
use Rattle.elements.proofs.pperm.packed.unpack.Given as goal

-- the images so far
abbrev pub invariant-loop-i : goal.invariant-loop-i
invariant-loop-i l = l.images.items ≡ take l.i (optional_digits l.count l.x)
