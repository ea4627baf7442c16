use Rattle.std.proofs.Common.{◌≡◌, ◌*◌, ◌<◌, ◌^◌, map, take}
use Rattle.elements.specs.Digits.{optional_digits}
use Rattle.elements.specs.PPerm.{partial_image}
use Rattle.elements.proofs.pperm.packed.packed_product.Given as goal

-- the images so far
abbrev pub invariant-loop-i : goal.invariant-loop-i
invariant-loop-i l = record {
  images : optional_digits l.i l.product ≡ map (partial_image (optional_digits l.n l.right)) (take l.i (optional_digits l.n l.left));
  below : l.product < 2 ^ (4 * l.i);
}
