use Rattle.std.proofs.Common.{length, sym, ap, ◌∙◌}
use Rattle.elements.specs.TransfForms.{images_of}
use Rattle.elements.proofs.Digits.{length-digits}
use Rattle.elements.proofs.transf.Transf.degree.Goals as goal

pub returns-in-Packed-clause-degree : goal.returns-in-Packed-clause-degree
returns-in-Packed-clause-degree c = sym (length-digits c.in-Packed.n c.in-Packed.field-1) ∙ ap length (sym (ap images_of c.in-Packed.is) ∙ c.self.view_is)
