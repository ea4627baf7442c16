use Rattle.std.proofs.Common.{ℕ, sym, ◌∙◌, arith}
use Rattle.std.specs.Ordering.{nat_cmp}
use Rattle.std.proofs.lemmas.Grind.{common_steps}
use Rattle.elements.proofs.Compared.{ends_compared}
use Rattle.elements.proofs.transf.TransfOrd.cmp.Goals as goal

pub returns : goal.returns
returns c =
    let xs = c.args.self.now in
    let ys = c.args.other.now in
    let i : ℕ = c.loop-point.point in
    c.cmp.ensures ∙ (λ t. nat_cmp (c.degree-3.ensures.degree t) (c.degree-4.ensures.degree t)) ∙ sym (c.loop-point.invariant ∙ ends_compared nat_cmp xs ys i (grind (arith, common_steps)) (grind (arith, common_steps)) (grind (arith, common_steps)))
