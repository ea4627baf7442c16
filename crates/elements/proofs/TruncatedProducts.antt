-- Products of truncated max-plus matrices.
use Rattle.std.proofs.Common.{ℕ, zero, suc, ◌+◌, ◌*◌, ◌/◌, ◌%◌, ◌<◌, List, length, arith}
use Rattle.std.specs.Prelude.{Option, Some, None, All}
use Rattle.std.specs.List.{range_with_len}
use Rattle.std.proofs.lemmas.List.{length-map, get_or-map}
use Rattle.elements.specs.Fields.{IsBelow}
use Rattle.elements.specs.Matrix.{sum_below, product_entry, matrix_product}
use Rattle.elements.specs.MaxPlus.{greater_of, truncated_sum}

greater_below : (n : ℕ) (p q : Option ℕ) → IsBelow n p → IsBelow n q → IsBelow n (greater_of p q)
greater_below n None q h k = k
greater_below n (Some p) None h k = h
greater_below n (Some p) (Some q) h k = omega arith

truncated_below : (t : ℕ) (p q : Option ℕ) → IsBelow (t + 1) (truncated_sum t p q)
truncated_below t None q = tt
truncated_below t (Some p) None = tt
truncated_below t (Some p) (Some q) = omega arith

greatest_below : (t : ℕ) (f : ℕ → Option ℕ) (n : ℕ) → ((k : ℕ) → IsBelow (t + 1) (f k)) → IsBelow (t + 1) (sum_below greater_of (truncated_sum t) None f n)
greatest_below t f zero h = tt
greatest_below t f (suc n) h = greater_below (t + 1) (sum_below greater_of (truncated_sum t) None f n) (f n) (greatest_below t f n h) (h n)

-- each entry of a product is minus infinity or at most the bound
pub product_in_range : (t n : ℕ) (x y : List (Option ℕ)) → All (IsBelow (t + 1)) (matrix_product greater_of (truncated_sum t) None n x y)
product_in_range t n x y = λ k d within.
    let entry : ℕ → Option ℕ = λ p. product_entry greater_of (truncated_sum t) None n x y (p / n) (p % n) in
    let places : List ℕ = range_with_len 0 (n * n) in
    let k_in : k < length places = omega (arith, length-map places entry) in
    rw (get_or-map entry places k 0 d k_in) (greatest_below t _ n (λ j. truncated_below t _ _))
