use Rattle.std.proofs.Common.{◌*◌, sym, ap, subst, ◌∙◌}
use Rattle.elements.specs.BMat.{IsBooleanMatrix}
use Rattle.elements.specs.BMatForms.{matrix_of}
use Rattle.elements.proofs.Bits.{length-bits}
use Rattle.elements.proofs.bmat.BMat.dimension.Goals as goal

pub returns-in-Packed-clause-valid : goal.returns-in-Packed-clause-valid
returns-in-Packed-clause-valid c = subst IsBooleanMatrix (sym (ap matrix_of c.in-Packed.is) ∙ c.self.view_is) (length-bits (c.in-Packed.n * c.in-Packed.n) c.in-Packed.field-1)
