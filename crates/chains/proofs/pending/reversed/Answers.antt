use Rattle.std.proofs.Common.{◌≡◌, ◌+◌, ◌-◌, ◌<◌, ◌∷◌, ◌++◌, [], List, drop, false, get_or, length, reverse, ◌∙◌, ap, arith}
use Rattle.chains.specs.declared.steps.ChainStep.{ChainStep}
use Rattle.chains.proofs.PendingLaws.{back_step}
use Rattle.chains.proofs.pending.reversed.Goals as goal

pub loop-place-preserved : goal.loop-place-preserved
loop-place-preserved c =
    let steps = c.args.steps.now in
    let place = c.loop-place.place - 1 in
    let one : c.loop-place.place ≡ place + 1 = omega arith in
    let inside : place < length steps = omega arith in
    let none : ChainStep = record { place = 0; relation = 0; forward = false } in
    let step = get_or steps place none in
    c.in_ok-push.ensures.items ∙ ap (λ (xs : List ChainStep). xs ++ step ∷ []) c.loop-place.invariant
    ∙ ap (λ n. reverse (drop n steps) ++ step ∷ []) one ∙ back_step steps place none inside
