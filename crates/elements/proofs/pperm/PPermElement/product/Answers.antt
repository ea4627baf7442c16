use Rattle.std.proofs.Common.{◌≡◌, ℕ, List, length, sym, ap, subst, ◌∙◌, arith}
use Rattle.elements.specs.Digits.{optional_digits}
use Rattle.std.proofs.lemmas.List.{length-map}
use Rattle.std.specs.Prelude.{Option, All}
use Rattle.elements.specs.Fields.{IsBelow}
use Rattle.elements.specs.PPerm.{partial_image, partially_composed, ArePartialImages}
use Rattle.elements.specs.PPermForms.{images_of, IsForm}
use Rattle.elements.proofs.PartialProducts.{composed_partial_images}
use Rattle.elements.proofs.OptionalDigits.{length-optional}
use Rattle.elements.proofs.pperm.PPermElement.product.Goals as goal

pub invariant_of-result : goal.invariant_of-result
invariant_of-result c =
    let n : ℕ = c.in-Packed.n in
    let m : ℕ = c.in-Packed-form.field-0 in
    let x : List (Option ℕ) = optional_digits n c.in-Packed.x in
    let y : List (Option ℕ) = optional_digits m c.in-Packed-form.y in
    let left : x ≡ c.args.self.now = sym (ap images_of c.in-Packed.is) ∙ c.self.view_is in
    let right : y ≡ c.args.other.now = sym (ap images_of c.in-Packed-form.is) ∙ c.other.view_is in
    let p = subst IsForm c.in-Packed.is c.self.invariant in
    let q = subst IsForm c.in-Packed-form.is c.other.invariant in
    let one_shape : length x ≡ length y = ap length left ∙ ap (λ s. s.0) c.requires ∙ sym (ap length right) in
    let same : n ≡ m = sym (length-optional n c.in-Packed.x) ∙ one_shape ∙ length-optional m c.in-Packed-form.y in
    let made : optional_digits n c.packed_product.result ≡ partially_composed x y = c.packed_product.ensures.product ∙ ap (λ k. partially_composed x (optional_digits k c.in-Packed-form.y)) same in
    (p.0, c.packed_product.ensures.below, subst ArePartialImages (sym made) (composed_partial_images x y one_shape p.2 q.2))

pub returns-in-Packed-form : goal.returns-in-Packed-form
returns-in-Packed-form c =
    let n : ℕ = c.in-Packed.n in
    let m : ℕ = c.in-Packed-form.field-0 in
    let x : List (Option ℕ) = optional_digits n c.in-Packed.x in
    let y : List (Option ℕ) = optional_digits m c.in-Packed-form.y in
    let left : x ≡ c.args.self.now = sym (ap images_of c.in-Packed.is) ∙ c.self.view_is in
    let right : y ≡ c.args.other.now = sym (ap images_of c.in-Packed-form.is) ∙ c.other.view_is in
    let one_shape : length x ≡ length y = ap length left ∙ ap (λ s. s.0) c.requires ∙ sym (ap length right) in
    let same : n ≡ m = sym (length-optional n c.in-Packed.x) ∙ one_shape ∙ length-optional m c.in-Packed-form.y in
    c.packed_product.ensures.product ∙ ap (λ k. partially_composed x (optional_digits k c.in-Packed-form.y)) same ∙ (λ t. partially_composed (left t) (right t))

pub unreachable-requires : goal.unreachable-requires
unreachable-requires c =
    let left = sym (length-optional c.in-Packed.n c.in-Packed.x) ∙ ap length (sym (ap images_of c.in-Packed.is) ∙ c.self.view_is) in
    let right = ap length (sym (ap images_of c.in-Long-form.is) ∙ c.other.view_is) in
    let p = subst IsForm c.in-Packed.is c.self.invariant in
    let q = subst IsForm c.in-Long-form.is c.other.invariant in
    let e = ap (λ s. s.0) c.requires in
    omega (arith, left, right, e, p.0, q.0)

pub unreachable-requires-in-Packed-form-2 : goal.unreachable-requires-in-Packed-form-2
unreachable-requires-in-Packed-form-2 c =
    let left = ap length (sym (ap images_of c.in-Long.is) ∙ c.self.view_is) in
    let right = sym (length-optional c.in-Packed-form-2.field-0 c.in-Packed-form-2.field-1) ∙ ap length (sym (ap images_of c.in-Packed-form-2.is) ∙ c.other.view_is) in
    let p = subst IsForm c.in-Long.is c.self.invariant in
    let q = subst IsForm c.in-Packed-form-2.is c.other.invariant in
    let e = ap (λ s. s.0) c.requires in
    omega (arith, left, right, e, p.0, q.0)

pub invariant_of-result-in-Long-form-2 : goal.invariant_of-result-in-Long-form-2
invariant_of-result-in-Long-form-2 c =
    let x : List (Option ℕ) = c.in-Long.left.value.items in
    let y : List (Option ℕ) = c.in-Long-form-2.right.value.items in
    let left : x ≡ c.args.self.now = sym (ap images_of c.in-Long.is) ∙ c.self.view_is in
    let right : y ≡ c.args.other.now = sym (ap images_of c.in-Long-form-2.is) ∙ c.other.view_is in
    let p = subst IsForm c.in-Long.is c.self.invariant in
    let q = subst IsForm c.in-Long-form-2.is c.other.invariant in
    let one_shape : length x ≡ length y = ap length left ∙ ap (λ s. s.0) c.requires ∙ sym (ap length right) in
    let made : c.in_ok-new-in-Long-form-2.field-0.value.items ≡ partially_composed x y = ap (λ v. v.items) c.in_ok-new-in-Long-form-2.ensures.ok ∙ c.in_ok-images-in-Long-form-2.ensures ∙ (λ k. partially_composed ((c.deref-in-Long-form-2.ensures.value ∙ ap (λ v. v.items) c.deref.ensures) k) ((c.deref-in-Long-form-2-3.ensures.value ∙ ap (λ v. v.items) c.deref-in-Long-form-2-2.ensures) k)) in
    let long : length (partially_composed x y) ≡ length x = length-map x (partial_image y) in
    rw made (omega (arith, long, p.0), composed_partial_images x y one_shape p.1 q.1)

pub packed_product-requires-clause-images : goal.packed_product-requires-clause-images
packed_product-requires-clause-images c =
    let n : ℕ = c.in-Packed.n in
    let p = subst IsForm c.in-Packed.is c.self.invariant in
    subst (λ k. All (IsBelow k) (optional_digits n c.in-Packed.x)) (length-optional n c.in-Packed.x) p.2.in_range
