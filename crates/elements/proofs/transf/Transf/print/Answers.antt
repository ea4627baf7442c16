use Rattle.std.proofs.Common.{◌++◌, ◌<◌, List, ℕ, length, ap, ◌∙◌, codes, arith}
use Rattle.std.specs.Fmt.{decimal}
use Rattle.theory.proofs.PieceLaws.{joined_first, joined_more}
use Rattle.elements.proofs.transf.Transf.print.Goals as goal
use Rattle.elements.proofs.transf.Transf.print.Goals.{then-point-gt0+in_ok-push, else-point-gt0}

pub loop-point-preserved : goal.loop-point-preserved
loop-point-preserved c =
    let xs : List ℕ = c.args.self.now in
    let i : ℕ = c.loop-point.point in
    let more : i < length xs = omega arith in
    let piece = c.as_bytes.ensures.value ∙ c.format.ensures.text ∙ ap decimal c.image.ensures in
    let put = c.in_ok-extend_from_slice.ensures.items in
    elim c.if-point-gt0.branch [
      | then-point-gt0+in_ok-push w ↦ put ∙ (λ k. (ap (λ t. t.items) w.text-is ∙ w.in_ok-push.ensures.items ∙ ap (λ t. t ++ codes " ") c.loop-point.invariant) k ++ piece k) ∙ joined_more decimal (codes " ") xs i 0 w.if-point-gt0.true more
      | else-point-gt0 w ↦ put ∙ (λ k. (ap (λ t. t.items) w.text-is ∙ c.loop-point.invariant) k ++ piece k) ∙ joined_first decimal (codes " ") xs i 0 w.if-point-gt0.false more
    ]
