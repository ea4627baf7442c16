-- Products of partial permutations.
use Rattle.std.proofs.Common.{◌≡◌, ℕ, zero, suc, ◌<◌, List, [], ◌∷◌, length, slice_index_or, refl, ap, ◌∙◌, arith}
use Rattle.std.specs.Prelude.{Option, Some, None, All}
use Rattle.std.proofs.lemmas.List.{length-map, get_or-map}
use Rattle.elements.specs.Fields.{IsBelow}
use Rattle.elements.specs.PPerm.{partial_image, partially_composed, ArePartialImages}

-- an image of y is below n where each is
image_below : (y : List (Option ℕ)) (n : ℕ) → All (IsBelow n) y → (k : Option ℕ) → IsBelow n (partial_image y k)
image_below y n in_y None = tt
image_below [] n in_y (Some k) = tt
image_below (o ∷ y) n in_y (Some zero) = in_y 0 None (omega arith)
image_below (o ∷ y) n in_y (Some (suc k)) = image_below y n (λ j d lt. in_y (suc j) d (omega arith)) (Some k)

-- an image of the product comes by way of an image of each factor
composed_image : (x y : List (Option ℕ)) (i z : ℕ) → slice_index_or (partially_composed x y) i None ≡ Some z → (k : ℕ) × (slice_index_or x i None ≡ Some k) × (slice_index_or y k None ≡ Some z)
composed_image [] y i z e = absurd (cc)
composed_image (None ∷ x) y zero z e = absurd (cc)
composed_image (Some k ∷ x) y zero z e = (k, refl, e)
composed_image (o ∷ x) y (suc i) z e = composed_image x y i z e

-- a product has images in its degree, and none twice
pub composed_partial_images : (x y : List (Option ℕ)) → length x ≡ length y → ArePartialImages x → ArePartialImages y → ArePartialImages (partially_composed x y)
composed_partial_images x y e in_x in_y = record {
  in_range = λ k d within.
      let n : length (partially_composed x y) ≡ length x = length-map x (partial_image y) in
      let k_in : k < length x = omega arith in
      let at : slice_index_or (partially_composed x y) k d ≡ partial_image y (slice_index_or x k None) = get_or-map (partial_image y) x k None d k_in in
      rw (at, n, e) (image_below y (length y) in_y.in_range (slice_index_or x k None));
  injective = λ i j z f g.
      let p = composed_image x y i z f in
      let q = composed_image x y j z g in
      let same : p.0 ≡ q.0 = in_y.injective p.0 q.0 z p.2 q.2 in
      in_x.injective i j q.0 (p.1 ∙ ap Some same) q.1;
}
