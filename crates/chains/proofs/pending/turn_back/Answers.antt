use Rattle.std.proofs.Common.{◌≡◌, ◌+◌, ◌-◌, ◌<◌, ◌∷◌, ◌++◌, [], List, drop, false, get_or, length, map, reverse, ◌∙◌, ap, ap₂, arith}
use Rattle.std.proofs.lemmas.List.{append_assoc}
use Rattle.chains.specs.declared.steps.ChainStep.{ChainStep}
use Rattle.chains.specs.Derivations.{turned}
use Rattle.chains.proofs.PendingLaws.{made_back_step}
use Rattle.chains.proofs.pending.turn_back.Goals as goal

pub loop-place-preserved : goal.loop-place-preserved
loop-place-preserved c =
    let back = c.args.back.now in
    let place = c.loop-place.place - 1 in
    let one : c.loop-place.place ≡ place + 1 = omega arith in
    let inside : place < length back = omega arith in
    let none : ChainStep = record { place = 0; relation = 0; forward = false } in
    let step = get_or back place none in
    c.in_ok-push.ensures.items ∙ ap₂ (λ (xs : List ChainStep) (s : ChainStep). xs ++ s ∷ []) c.loop-place.invariant c.turned.ensures
    ∙ append_assoc c.args.steps.now.items (reverse (map turned (drop c.loop-place.place back))) (turned step ∷ [])
    ∙ ap (λ (ys : List ChainStep). c.args.steps.now.items ++ ys)
    (ap (λ n. reverse (map turned (drop n back)) ++ turned step ∷ []) one ∙ made_back_step back place none inside turned)
