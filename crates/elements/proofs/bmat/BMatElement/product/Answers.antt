use Rattle.std.proofs.Common.{◌≡◌, length, false, ◌||◌, ◌&&◌, ◌*◌, ap, ◌∙◌, arith}
use Rattle.std.proofs.lemmas.Grind.{common_steps}
use Rattle.elements.specs.MatrixLaws.{length-matrix_product}
use Rattle.elements.proofs.bmat.BMatElement.product.Goals as goal

pub invariant_of-result-in-Long-form-2 : goal.invariant_of-result-in-Long-form-2
invariant_of-result-in-Long-form-2 c =
    let entries = c.in_ok-entries-in-Long-form-2.ensures in
    let n = c.deref.result.now.dimension in
    let sized : length c.in_ok-entries-in-Long-form-2.entries.items ≡ n * n = ap length entries ∙ length-matrix_product ◌||◌ ◌&&◌ false n _ _ in
    grind (arith, common_steps, sized)
