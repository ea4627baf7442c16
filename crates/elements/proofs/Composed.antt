-- Products of transformations.
use Rattle.std.proofs.Common.{◌≡◌, ℕ, ◌<◌, List, length, slice_index_or, arith}
use Rattle.std.proofs.lemmas.List.{get_or-map}
use Rattle.elements.specs.Transf.{AreImages, image, composed}
use Rattle.elements.specs.TransfLaws.{length-composed}

-- a product has images in its degree
pub composed_images : (x y : List ℕ) → length x ≡ length y → AreImages x → AreImages y → AreImages (composed x y)
composed_images x y e in_x in_y = λ k d within.
    let n : length (composed x y) ≡ length x = length-composed x y in
    let k_in : k < length x = omega arith in
    let x_k : slice_index_or x k k < length x = in_x k k k_in in
    let i : ℕ = slice_index_or x k k in
    let at : slice_index_or (composed x y) k d ≡ image y i = get_or-map (image y) x k k d k_in in
    let y_i : image y i < length y = in_y i i (omega arith) in
    rw (at, n) (omega arith)
