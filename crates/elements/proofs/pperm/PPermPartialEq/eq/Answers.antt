use Rattle.std.proofs.Common.{◌==◌, length, sym, ap, subst, ◌∙◌, arith}
use Rattle.std.specs.Option.{option_eq}
use Rattle.std.specs.Cmp.Lexicographic.{pointwise, unequal}
use Rattle.elements.specs.PPermLaws.{options_Decides}
use Rattle.std.specs.Cmp.{unsigned_Decides}
use Rattle.elements.proofs.Bits.{same_tests}
use Rattle.elements.specs.PPermForms.{images_of, IsForm}
use Rattle.elements.proofs.OptionalDigits.{length-optional, optional_equal}
use Rattle.elements.proofs.pperm.PPermPartialEq.eq.Goals as goal

pub returns-then-n-m : goal.returns-then-n-m
returns-then-n-m c =
    let left = sym (ap images_of c.in-Packed.is) ∙ c.self.view_is in
    let right = sym (ap images_of c.in-Packed-form.is) ∙ c.other.view_is in
    let p = subst IsForm c.in-Packed.is c.self.invariant in
    let q = subst IsForm c.in-Packed-form.is c.other.invariant in
    optional_equal c.in-Packed.n c.in-Packed-form.m c.in-Packed.x c.in-Packed-form.y (omega arith) p.1 q.1 ∙ (λ t. pointwise (option_eq ◌==◌) (left t) (right t))

pub returns-else-n-m : goal.returns-else-n-m
returns-else-n-m c =
    let left = sym (length-optional c.in-Packed.n c.in-Packed.x) ∙ ap length (sym (ap images_of c.in-Packed.is) ∙ c.self.view_is) in
    let right = sym (length-optional c.in-Packed-form.m c.in-Packed-form.y) ∙ ap length (sym (ap images_of c.in-Packed-form.is) ∙ c.other.view_is) in
    same_tests (c.in-Packed.n == c.in-Packed-form.m) (pointwise (option_eq ◌==◌) c.args.self.now c.args.other.now)
    (λ h. absurd (c.if-n-m.false ((unsigned_Decides c.in-Packed.n c.in-Packed-form.m).0 h)))
    (λ h. (unsigned_Decides c.in-Packed.n c.in-Packed-form.m).1 (left ∙ ap length ((options_Decides c.args.self.now c.args.other.now).0 h) ∙ sym right))

pub returns-in-Long-form : goal.returns-in-Long-form
returns-in-Long-form c =
    let left = sym (length-optional c.in-Packed.n c.in-Packed.x) ∙ ap length (sym (ap images_of c.in-Packed.is) ∙ c.self.view_is) in
    let right = ap length (sym (ap images_of c.in-Long-form.is) ∙ c.other.view_is) in
    let p = subst IsForm c.in-Packed.is c.self.invariant in
    let q = subst IsForm c.in-Long-form.is c.other.invariant in
    sym (unequal (option_eq ◌==◌) c.args.self.now c.args.other.now (λ e. omega (arith, left, right, e, p.0, q.0)))

pub returns-in-Packed-form-2 : goal.returns-in-Packed-form-2
returns-in-Packed-form-2 c =
    let left = ap length (sym (ap images_of c.in-Long.is) ∙ c.self.view_is) in
    let right = sym (length-optional c.in-Packed-form-2.field-0 c.in-Packed-form-2.field-1) ∙ ap length (sym (ap images_of c.in-Packed-form-2.is) ∙ c.other.view_is) in
    let p = subst IsForm c.in-Long.is c.self.invariant in
    let q = subst IsForm c.in-Packed-form-2.is c.other.invariant in
    sym (unequal (option_eq ◌==◌) c.args.self.now c.args.other.now (λ e. omega (arith, left, right, e, p.0, q.0)))
