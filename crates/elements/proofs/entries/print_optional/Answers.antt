use Rattle.std.proofs.Common.{◌++◌, List, ℕ, get_or, ap, ◌∙◌, codes}
use Rattle.std.specs.Prelude.{Option, None}
use Rattle.elements.specs.Fields.{decimal_or_dash}
use Rattle.theory.proofs.PieceLaws.{joined_first, joined_more}
use Rattle.elements.proofs.entries.print_optional.Goals as goal
use Rattle.elements.proofs.entries.print_optional.Goals.{then-i-gt0+in_ok-push, else-i-gt0}

pub loop-i-preserved : goal.loop-i-preserved
loop-i-preserved c =
    let xs : List (Option ℕ) = c.args.entries.now in
    let i : ℕ = c.loop-i.i in
    let piece : List ℕ = decimal_or_dash (get_or xs i None) in
    let put = c.in_ok-push_entry.ensures in
    let more = c.loop-i-test.true in
    elim c.if-i-gt0.branch [
      | then-i-gt0+in_ok-push w ↦ put ∙ ap (λ t. t ++ piece) (ap (λ t. t.items) w.text-is ∙ w.in_ok-push.ensures.items ∙ ap (λ t. t ++ codes " ") c.loop-i.invariant) ∙ joined_more decimal_or_dash (codes " ") xs i None w.if-i-gt0.true more
      | else-i-gt0 w ↦ put ∙ ap (λ t. t ++ piece) (ap (λ t. t.items) w.text-is ∙ c.loop-i.invariant) ∙ joined_first decimal_or_dash (codes " ") xs i None w.if-i-gt0.false more
    ]
