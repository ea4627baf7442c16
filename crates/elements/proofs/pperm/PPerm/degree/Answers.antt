use Rattle.std.proofs.Common.{length, sym, ap, ◌∙◌}
use Rattle.elements.specs.PPermForms.{images_of}
use Rattle.elements.proofs.OptionalDigits.{length-optional}
use Rattle.elements.proofs.pperm.PPerm.degree.Goals as goal

pub returns-in-Packed-clause-degree : goal.returns-in-Packed-clause-degree
returns-in-Packed-clause-degree c = sym (length-optional c.in-Packed.n c.in-Packed.field-1) ∙ ap length (sym (ap images_of c.in-Packed.is) ∙ c.self.view_is)
