use Rattle.std.proofs.Common.{◌++◌, ◌<◌, List, ℕ, Bool, false, length, ap, ◌∙◌, codes}
use Rattle.elements.specs.BMat.{bit_text}
use Rattle.theory.proofs.PieceLaws.{joined_first, joined_more}
use Rattle.elements.proofs.bmat.print_bits.Goals as goal
use Rattle.elements.proofs.bmat.print_bits.Goals.{then-i-gt0+in_ok-push, else-i-gt0}

pub loop-i-preserved : goal.loop-i-preserved
loop-i-preserved c =
    let xs : List Bool = c.args.entries.now in
    let i : ℕ = c.loop-i.i in
    let more : i < length xs = c.loop-i-test.true in
    let piece = c.digit_of.ensures in
    let put = c.in_ok-push-2.ensures.items in
    elim c.if-i-gt0.branch [
      | then-i-gt0+in_ok-push w ↦ put ∙ (λ k. (ap (λ t. t.items) w.text-is ∙ w.in_ok-push.ensures.items ∙ ap (λ t. t ++ codes " ") c.loop-i.invariant) k ++ piece k) ∙ joined_more bit_text (codes " ") xs i false w.if-i-gt0.true more
      | else-i-gt0 w ↦ put ∙ (λ k. (ap (λ t. t.items) w.text-is ∙ c.loop-i.invariant) k ++ piece k) ∙ joined_first bit_text (codes " ") xs i false w.if-i-gt0.false more
    ]
