use Rattle.std.proofs.Common.{◌≡◌, ℕ, List, [], ◌∷◌, ◌++◌, None, Option, get_or, ap, ◌∙◌}
use Rattle.std.proofs.lemmas.List.{get_or_read}
use Rattle.word_graph.specs.Renumber.{renumber}
use Rattle.word_graph.proofs.EntryLaws.{pushed_more}
use Rattle.word_graph.proofs.rows.push_renumbered.Goals as goal

pub loop-entry-preserved : goal.loop-entry-preserved
loop-entry-preserved c =
    let row : List (Option ℕ) = c.args.row.now in
    let i : ℕ = c.loop-entry.entry-index in
    let here : c.value.result ≡ get_or row i None = c.value.ensures.value ∙ get_or_read row i c.entry-item.result c.loop-entry-test.true c.entry-item.is None in
    pushed_more (renumber c.args.places.now) row i None c.args.entries.now.items c.loop-entry.entries.items c.push.new.self.items c.loop-entry-test.true
    (c.in_ok-push.ensures.items ∙ ap (λ e. c.loop-entry.entries.items ++ e ∷ []) (c.new.ensures ∙ c.renumber.ensures ∙ ap (renumber c.args.places.now) here)) c.loop-entry.invariant
