use Rattle.std.proofs.Common.{◌≡◌, List, [], ◌∷◌, ◌++◌, take, sym, ◌∙◌, ap, ap₂}
use Rattle.std.proofs.lemmas.List.{get_or_read, take_more}
use Rattle.theory.specs.Word.{Word}
use Rattle.word_graph.specs.Steps.{step_at, words_of, next_word}
use Rattle.word_graph.specs.declared.walks.Step.{Step}
use Rattle.word_graph.proofs.WordLaws.{words_more}
use Rattle.word_graph.proofs.walks.Walk.words.Goals as goal

pub loop-step-preserved : goal.loop-step-preserved
loop-step-preserved c =
    let at : c.step-item.result ≡ step_at c.deref-step-items.result.now c.loop-step.step-index = get_or_read _ _ _ c.loop-step-test.true c.step-item.is (record { node = 0; parent = 0; letter = 0 }) in
    let slice : c.as_slice.result.now ≡ words_of (take c.loop-step.step-index c.deref-step-items.result.now) = c.as_slice.ensures.value ∙ c.loop-step.invariant in
    let word : c.in_ok-word.word ≡ next_word (words_of (take c.loop-step.step-index c.deref-step-items.result.now)) (step_at c.deref-step-items.result.now c.loop-step.step-index) =
    c.in_ok-word.ensures ∙ ap₂ (λ (ws : List Word) (s : Step). next_word ws s) slice at in
    c.in_ok-push.ensures.items ∙ ap₂ (λ (ws : List Word) (w : Word). ws ++ w ∷ []) c.loop-step.invariant word
    ∙ sym (words_more [] (take c.loop-step.step-index c.deref-step-items.result.now) (step_at c.deref-step-items.result.now c.loop-step.step-index))
    ∙ sym (ap words_of (take_more c.deref-step-items.result.now c.loop-step.step-index (record { node = 0; parent = 0; letter = 0 }) c.loop-step-test.true))
