use Rattle.std.proofs.Common.{sym, ap, subst, ◌∙◌, arith}
use Rattle.elements.specs.BMatForms.{matrix_of, IsForm}
use Rattle.elements.specs.BMatLaws.{boolean_matrix_eq}
use Rattle.elements.proofs.PackedMatrices.{packed_equal}
use Rattle.elements.proofs.bmat.BMatPartialEq.eq.Goals as goal

pub returns-then-n-m : goal.returns-then-n-m
returns-then-n-m c =
    let left = sym (ap matrix_of c.in-Packed.is) ∙ c.self.view_is in
    let right = sym (ap matrix_of c.in-Packed-form.is) ∙ c.other.view_is in
    let p = subst IsForm c.in-Packed.is c.self.invariant in
    let q = subst IsForm c.in-Packed-form.is c.other.invariant in
    packed_equal c.in-Packed.n c.in-Packed-form.m c.in-Packed.x c.in-Packed-form.y (omega arith) p.1 q.1 ∙ (λ t. boolean_matrix_eq (left t) (right t))
