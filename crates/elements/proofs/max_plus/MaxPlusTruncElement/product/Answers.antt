use Rattle.std.proofs.Common.{◌≡◌, ℕ, List, length, None, sym, ap, ◌∙◌, subst}
use Rattle.std.specs.Prelude.{Option, All}
use Rattle.elements.specs.Fields.{IsBelow}
use Rattle.elements.specs.Matrix.{matrix_product}
use Rattle.elements.specs.MatrixLaws.{length-matrix_product}
use Rattle.elements.specs.MaxPlus.{greater_of, truncated_sum, truncated_product}
use Rattle.elements.proofs.TruncatedProducts.{product_in_range}
use Rattle.elements.proofs.max_plus.MaxPlusTruncElement.product.Goals as goal

pub invariant_of-result : goal.invariant_of-result
invariant_of-result c =
    let n : ℕ = c.self.inside.dimension in
    let t : ℕ = c.self.inside.bound in
    let x : List (Option ℕ) = c.deref.result.now in
    let y : List (Option ℕ) = c.deref-2.result.now in
    let made : c.in_ok-entries.entries.items ≡ matrix_product greater_of (truncated_sum t) None n x y = c.in_ok-entries.ensures in
    record {
      sized = ap length made ∙ length-matrix_product greater_of (truncated_sum t) None n x y;
      in_range = subst (All (IsBelow _)) (sym made) (product_in_range t n x y);
    }

pub returns : goal.returns
returns c =
    let n : ℕ = c.self.inside.dimension in
    let t : ℕ = c.self.inside.bound in
    let x : List (Option ℕ) = c.self.inside.entries.items in
    let y : List (Option ℕ) = c.other.inside.entries.items in
    let made : c.in_ok-entries.entries.items ≡ matrix_product greater_of (truncated_sum t) None n x y
    = c.in_ok-entries.ensures ∙ (λ k. matrix_product greater_of (truncated_sum t) None n (c.deref.ensures.value k) (c.deref-2.ensures.value k)) in
    (λ k. record { dimension = n; bound = t; entries = made k }) ∙ (λ k. truncated_product (c.self.view_is k) (c.other.view_is k))
