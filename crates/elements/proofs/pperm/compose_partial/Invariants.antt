use Rattle.std.proofs.Common.{◌≡◌, map, take}
use Rattle.elements.specs.PPerm.{partial_image}
use Rattle.elements.proofs.pperm.compose_partial.Given as goal

-- the images so far
abbrev pub invariant-loop-y : goal.invariant-loop-y
invariant-loop-y l = l.images.items ≡ map (partial_image l.right) (take l.y-index l.left)
