use Rattle.std.proofs.Common.{◌+◌, drop, arith, sym, subst, List}
use Rattle.theory.specs.Word.{Word as Letters}
use Rattle.chains.specs.Chains.{IsChain, step_of}
use Rattle.chains.proofs.ChainLaws.{IsBegun, begun_more, chain_done, fits_nowhere, given, left_begins, none_left, not_given}
use Rattle.chains.proofs.chains.words_of.Goals as goal

pub returns-in_default : goal.returns-in_default
returns-in_default c =
    let p = c.args.presentation.now.presentation in
    let steps = c.args.steps.now.items in
    let step = c.index.result.now in
    fits_nowhere p c.args.from.now steps c.loop-place.words.items c.loop-place.word (drop c.loop-place.place steps) (drop (c.loop-place.place + 1) steps) step c.loop-place.invariant
    (left_begins steps c.loop-place.place step (omega (arith, c.loop-place-test.true, c.len-place-end.ensures)) c.index.ensures)
    (not_given p c.loop-place.word (step_of step) c.in_ok-next.field-0 c.in_ok-next.ensures c.in_default.is)

pub loop-place-preserved : goal.loop-place-preserved
loop-place-preserved c =
    let p = c.args.presentation.now.presentation in
    let steps = c.args.steps.now.items in
    let step = c.index.result.now in
    subst (λ (ws : List Letters). IsBegun p c.args.from.now steps ws c.in-Some.next (drop (c.loop-place.place + 1) steps)) (sym c.in_ok-push.ensures.items)
    (begun_more p c.args.from.now steps c.loop-place.words.items c.loop-place.word (drop c.loop-place.place steps) (drop (c.loop-place.place + 1) steps) step c.loop-place.invariant
    (left_begins steps c.loop-place.place step (omega (arith, c.loop-place-test.true, c.len-place-end.ensures)) c.index.ensures) c.in-Some.next
    (given p c.loop-place.word (step_of step) c.in_ok-next.field-0 c.in-Some.next c.in_ok-next.ensures c.in-Some.is))

pub returns : goal.returns
returns c =
    let p = c.args.presentation.now.presentation in
    let steps = c.args.steps.now.items in
    subst (λ (ws : List Letters). IsChain p c.args.from.now steps ws) (sym c.in_ok-push-2.ensures.items)
    (chain_done p c.args.from.now steps c.loop-place.words.items c.loop-place.word (drop c.loop-place.place steps) c.loop-place.invariant
    (none_left steps c.loop-place.place (omega (arith, c.loop-place-test.false, c.len-place-end.ensures))))
