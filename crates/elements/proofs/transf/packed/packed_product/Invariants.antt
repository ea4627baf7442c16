use Rattle.std.proofs.Common.{◌≡◌, ◌*◌, ◌<◌, ◌^◌, map, take}
use Rattle.elements.specs.Digits.{digits}
use Rattle.elements.specs.Transf.{image}
use Rattle.elements.proofs.transf.packed.packed_product.Given as goal

-- the images so far
abbrev pub invariant-loop-i : goal.invariant-loop-i
invariant-loop-i l = record {
  images : digits l.i l.product ≡ map (image (digits l.n l.right)) (take l.i (digits l.n l.left));
  below : l.product < 2 ^ (4 * l.i);
}
