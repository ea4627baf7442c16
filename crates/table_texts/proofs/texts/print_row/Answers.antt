use Rattle.std.proofs.Common.{◌≡◌, ◌++◌, List, ℕ, get_or, ap, ◌∙◌, codes}
use Rattle.std.specs.Prelude.{Option, None}
use Rattle.std.proofs.lemmas.List.{get_or_read}
use Rattle.table_texts.specs.TableText.{target_text}
use Rattle.theory.proofs.PieceLaws.{joined_first, joined_more}
use Rattle.table_texts.proofs.texts.print_row.Goals as goal
use Rattle.table_texts.proofs.texts.print_row.Goals.{then-i-gt0+in_ok-push, else-i-gt0}

pub loop-i-preserved : goal.loop-i-preserved
loop-i-preserved c =
    let xs : List (Option ℕ) = c.args.entries.now in
    let i : ℕ = c.loop-i.i in
    let piece : List ℕ = target_text (get_or xs i None) in
    let here : c.value.result ≡ get_or xs i None = c.value.ensures.value ∙ get_or_read xs i c.index-entries-i.result c.loop-i-test.true c.index-entries-i.is None in
    let put = c.in_ok-push_target.ensures ∙ ap (λ o. c.if-i-gt0.text.items ++ target_text o) here in
    let more = c.loop-i-test.true in
    elim c.if-i-gt0.branch [
      | then-i-gt0+in_ok-push w ↦ put ∙ ap (λ t. t ++ piece) (ap (λ t. t.items) w.text-is ∙ w.in_ok-push.ensures.items ∙ ap (λ t. t ++ codes ",") c.loop-i.invariant) ∙ joined_more target_text (codes ",") xs i None w.if-i-gt0.true more
      | else-i-gt0 w ↦ put ∙ ap (λ t. t ++ piece) (ap (λ t. t.items) w.text-is ∙ c.loop-i.invariant) ∙ joined_first target_text (codes ",") xs i None w.if-i-gt0.false more
    ]
