use Rattle.std.proofs.Common.{sym, ap, subst, ◌∙◌}
use Rattle.std.specs.Ordering.{ordering_then}
use Rattle.elements.specs.BMatForms.{matrix_of, IsForm}
use Rattle.elements.specs.BMatLaws.{boolean_matrix_cmp}
use Rattle.elements.proofs.PackedMatrices.{packed_compared}
use Rattle.elements.proofs.bmat.BMatOrd.cmp.Goals as goal

pub returns-in-Packed-form : goal.returns-in-Packed-form
returns-in-Packed-form c =
    let left = sym (ap matrix_of c.in-Packed.is) ∙ c.self.view_is in
    let right = sym (ap matrix_of c.in-Packed-form.is) ∙ c.other.view_is in
    let p = subst IsForm c.in-Packed.is c.self.invariant in
    let q = subst IsForm c.in-Packed-form.is c.other.invariant in
    c.then.ensures ∙ (λ t. ordering_then (c.cmp.ensures t) (c.cmp-in-Packed-form.ensures t)) ∙ packed_compared c.in-Packed.n c.in-Packed-form.m c.in-Packed.x c.in-Packed-form.y p.1 q.1 ∙ (λ t. boolean_matrix_cmp (left t) (right t))
