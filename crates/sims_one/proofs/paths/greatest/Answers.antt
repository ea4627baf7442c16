use Rattle.std.proofs.Common.{◌≡◌, ℕ, List, [], ◌∷◌, take, get_or, max, ap, sym, ◌∙◌, arith, rules}
use Rattle.std.proofs.lemmas.List.{take_more, take_all}
use Rattle.word_graph.specs.Numbered.{max_from}
use Rattle.word_graph.proofs.NumberLaws.{max_append}
use Rattle.sims_one.proofs.paths.greatest.Goals as goal

pub loop-target-preserved : goal.loop-target-preserved
loop-target-preserved c =
    let xs : List ℕ = c.args.targets.now in
    let i : ℕ = c.loop-target.target-index in
    let step : c.max-greatest.result ≡ max c.loop-target.greatest (get_or xs i 0) = search rules in
    step ∙ ap (λ m. max m (get_or xs i 0)) c.loop-target.invariant ∙ sym (max_append 0 (take i xs) (get_or xs i 0 ∷ []))
    ∙ ap (max_from 0) (sym (take_more xs i 0 c.loop-target-test.true))

pub returns : goal.returns
returns c = c.loop-target.invariant ∙ ap (max_from 0) (take_all c.loop-target.target-index c.args.targets.now (omega arith))
