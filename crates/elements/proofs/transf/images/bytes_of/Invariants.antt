use Rattle.std.proofs.Common.{◌≡◌, take}
use Rattle.elements.proofs.transf.images.bytes_of.Given as goal

-- the bytes so far
abbrev pub invariant-loop-y : goal.invariant-loop-y
invariant-loop-y l = l.bytes.items ≡ take l.y-index l.images
