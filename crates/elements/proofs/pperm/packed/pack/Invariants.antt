use Rattle.std.proofs.Common.{◌≡◌, ◌*◌, ◌<◌, ◌^◌, take}
use Rattle.elements.specs.Digits.{optional_digits}
use Rattle.elements.proofs.pperm.packed.pack.Given as goal

-- the images so far
abbrev pub invariant-loop-y : goal.invariant-loop-y
invariant-loop-y l = record { images : optional_digits l.y-index l.number ≡ take l.y-index l.images; below : l.number < 2 ^ (4 * l.y-index) }
