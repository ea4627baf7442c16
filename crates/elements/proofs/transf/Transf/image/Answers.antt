use Rattle.std.proofs.Common.{◌≡◌, ℕ, ◌-◌, length, get_or, sym, ap, subst, ◌∙◌, arith}
use Rattle.elements.specs.TransfForms.{images_of, IsForm}
use Rattle.elements.proofs.Digits.{length-digits, digit_in}
use Rattle.elements.proofs.transf.Transf.image.Goals as goal

pub overflow_cast-point : goal.overflow_cast-point
overflow_cast-point c =
    let long = sym (length-digits c.in-Packed.n c.in-Packed.x) ∙ ap length (sym (ap images_of c.in-Packed.is) ∙ c.self.view_is) in
    let form = subst IsForm c.in-Packed.is c.self.invariant in
    omega (arith, long, form.0, c.requires)

pub overflow_sub-n-in-Packed : goal.overflow_sub-n-in-Packed
overflow_sub-n-in-Packed c =
    let long = sym (length-digits c.in-Packed.n c.in-Packed.x) ∙ ap length (sym (ap images_of c.in-Packed.is) ∙ c.self.view_is) in
    omega (arith, long, c.requires)

pub returns-in-Packed : goal.returns-in-Packed
returns-in-Packed c =
    let n : ℕ = c.in-Packed.n in
    let long : n ≡ length c.args.self.now = sym (length-digits n c.in-Packed.x) ∙ ap length (sym (ap images_of c.in-Packed.is) ∙ c.self.view_is) in
    c.digit.ensures.digit ∙ sym (digit_in n c.in-Packed.x c.args.point (n - 1 - c.args.point) 0 (omega (arith, long, c.requires))) ∙ ap (λ l. get_or l c.args.point 0) (sym (ap images_of c.in-Packed.is) ∙ c.self.view_is)
