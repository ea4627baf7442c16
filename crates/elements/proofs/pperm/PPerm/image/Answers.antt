use Rattle.std.proofs.Common.{length, sym, ap, subst, ◌∙◌, arith}
use Rattle.elements.specs.PPermForms.{images_of, IsForm}
use Rattle.elements.proofs.OptionalDigits.{length-optional}
use Rattle.elements.proofs.pperm.PPerm.image.Goals as goal

pub overflow_cast-point : goal.overflow_cast-point
overflow_cast-point c =
    let long = sym (length-optional c.in-Packed.n c.in-Packed.x) ∙ ap length (sym (ap images_of c.in-Packed.is) ∙ c.self.view_is) in
    let form = subst IsForm c.in-Packed.is c.self.invariant in
    omega (arith, long, form.0, c.requires)

pub image_at-requires-clause-point : goal.image_at-requires-clause-point
image_at-requires-clause-point c =
    let long = sym (length-optional c.in-Packed.n c.in-Packed.x) ∙ ap length (sym (ap images_of c.in-Packed.is) ∙ c.self.view_is) in
    omega (arith, long, c.requires)
