use Rattle.std.proofs.Common.{◌+◌, drop, arith}
use Rattle.chains.specs.Chains.{step_of}
use Rattle.chains.proofs.ChainLaws.{given, led_end, led_more, led_nowhere, left_begins, none_left, not_given}
use Rattle.chains.proofs.chains.check.Goals as goal

pub returns-in_default : goal.returns-in_default
returns-in_default c =
    let p = c.args.presentation.now.presentation in
    let steps = c.args.steps.now.items in
    let step = c.index.result.now in
    let none = not_given p c.loop-place.word (step_of step) c.in_ok-next.field-0 c.in_ok-next.ensures c.in_default.is in
    let left = left_begins steps c.loop-place.place step (omega (arith, c.loop-place-test.true, c.len-place-end.ensures)) c.index.ensures in (
      λ e. cc,
      λ h. absurd (led_nowhere p c.args.from.now steps c.loop-place.word (drop c.loop-place.place steps) (drop (c.loop-place.place + 1) steps) step c.loop-place.invariant left none c.args.to.now h),
    )

pub loop-place-preserved : goal.loop-place-preserved
loop-place-preserved c =
    let p = c.args.presentation.now.presentation in
    let steps = c.args.steps.now.items in
    let step = c.index.result.now in
    let left = left_begins steps c.loop-place.place step (omega (arith, c.loop-place-test.true, c.len-place-end.ensures)) c.index.ensures in
    led_more p c.args.from.now steps c.loop-place.word (drop c.loop-place.place steps) (drop (c.loop-place.place + 1) steps) step c.in-Some.next c.loop-place.invariant left
    (given p c.loop-place.word (step_of step) c.in_ok-next.field-0 c.in-Some.next c.in_ok-next.ensures c.in-Some.is)

pub returns : goal.returns
returns c =
    let steps = c.args.steps.now.items in
    led_end c.args.presentation.now.presentation c.args.from.now steps c.loop-place.word (drop c.loop-place.place steps) c.args.to.now c.letters.result.now c.letters-2.result.now c.eq.result
    c.loop-place.invariant (none_left steps c.loop-place.place (omega (arith, c.loop-place-test.false, c.len-place-end.ensures))) c.letters.ensures c.letters-2.ensures c.eq.ensures
