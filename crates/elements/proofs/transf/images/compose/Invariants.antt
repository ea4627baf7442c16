use Rattle.std.proofs.Common.{◌≡◌, map, take}
use Rattle.elements.specs.Transf.{image}
use Rattle.elements.proofs.transf.images.compose.Given as goal

-- the images so far
abbrev pub invariant-loop-y : goal.invariant-loop-y
invariant-loop-y l = l.images.items ≡ map (image l.right) (take l.y-index l.left)
