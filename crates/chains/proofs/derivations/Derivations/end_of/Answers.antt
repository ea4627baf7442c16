use Rattle.std.proofs.Common.{◌+◌, ◌<◌, List, length, get_or, drop, false, refl, sym, subst, arith}
use Rattle.std.proofs.lemmas.List.{get_or_default}
use Rattle.theory.specs.PlacedStep.{LeadTo, last_word}
use Rattle.chains.specs.Chains.{step_of, steps_of}
use Rattle.chains.specs.Derivations.{all_of}
use Rattle.chains.specs.declared.steps.ChainStep.{ChainStep}
use Rattle.chains.proofs.ChainLaws.{given, leads_here, led_more, led_nowhere, left_begins, none_left, not_given}
use Rattle.chains.proofs.derivations.Derivations.end_of.Goals as goal

pub returns-in_default : goal.returns-in_default
returns-in_default c =
    let p = all_of c.args.self.now in
    let steps = c.args.steps.now in
    let place = c.loop-place.place in
    let none : ChainStep = record { place = 0; relation = 0; forward = false } in
    let step : ChainStep = get_or steps place none in
    let within : place < length steps = omega (arith, c.loop-place-test.true) in
    let left = left_begins steps place step within (get_or_default steps place none step within) in
    λ fits. led_nowhere p c.args.from.now steps c.loop-place.word (drop place steps) (drop (place + 1) steps) step c.loop-place.invariant left
    (not_given p c.loop-place.word (step_of step) c.in_ok-next.field-0 c.in_ok-next.ensures c.in_default.is)
    (last_word c.args.from.now fits.0) (fits.0, fits.1, refl)

pub loop-place-preserved : goal.loop-place-preserved
loop-place-preserved c =
    let p = all_of c.args.self.now in
    let steps = c.args.steps.now in
    let place = c.loop-place.place in
    let none : ChainStep = record { place = 0; relation = 0; forward = false } in
    let step : ChainStep = get_or steps place none in
    let within : place < length steps = omega (arith, c.loop-place-test.true) in
    let left = left_begins steps place step within (get_or_default steps place none step within) in
    led_more p c.args.from.now steps c.loop-place.word (drop place steps) (drop (place + 1) steps) step c.in-Some.next c.loop-place.invariant left
    (given p c.loop-place.word (step_of step) c.in_ok-next.field-0 c.in-Some.next c.in_ok-next.ensures c.in-Some.is)

pub returns : goal.returns
returns c =
    let p = all_of c.args.self.now in
    let steps = c.args.steps.now in
    let none = none_left steps c.loop-place.place (omega (arith, c.loop-place-test.false)) in
    (c.loop-place.invariant c.loop-place.word).1
    (subst (λ (left : List ChainStep). LeadTo p c.loop-place.word (steps_of left) c.loop-place.word) (sym none) ((leads_here p c.loop-place.word c.loop-place.word).1 refl))
