use Rattle.std.proofs.Common.{◌≡◌, ℕ, map, take, ◌<◌, All, length, slice_get}
use Rattle.elements.specs.declared.field.Field.TheVariants.{Number}
use Rattle.elements.specs.Fields.{IsImageAt}
use Rattle.elements.proofs.transf.read_images.Given as goal

abbrev pub invariant-loop-i : goal.invariant-loop-i
invariant-loop-i l = record {
  images : map Number l.images.items ≡ take l.i l.fields;
  in_range : All (λ y. y < l.degree) l.images.items;
  count : length l.images.items ≡ l.i;
  before : (k : ℕ) → k < l.i → IsImageAt l.degree (slice_get l.fields k);
}
