use Rattle.std.proofs.Common.{◌-◌, false, slice_index_or, refl, arith}
use Rattle.chains.specs.declared.steps.ChainStep.{ChainStep}
use Rattle.chains.proofs.AlongLaws.{goes_on, gone_all, next_fits, words_stand}
use Rattle.chains.proofs.walks.Walk.go_all.Goals as goal

pub go-requires-clause-some : goal.go-requires-clause-some
go-requires-clause-some c =
    words_stand c.args.presentation.now.presentation c.requires.begun.0 c.loop-place.self (c.loop-place.invariant.stands c.requires.begun.0 c.requires.begun.1)

pub go-requires-clause-fits : goal.go-requires-clause-fits
go-requires-clause-fits c =
    let place = c.loop-place.place - 1 in
    let other : ChainStep = record { place = 0; relation = 0; forward = false } in
    next_fits c.args.presentation.now.presentation c.args.self.now c.args.pending.now c.loop-place.self place c.loop-place.place (slice_index_or c.args.pending.now place other) other
    c.loop-place.invariant (omega (arith, c.loop-place-test.true)) (omega (arith, c.loop-place-test.true, c.loop-place.auto.place)) refl c.requires.fits

pub loop-place-preserved : goal.loop-place-preserved
loop-place-preserved c =
    let place = c.loop-place.place - 1 in
    let other : ChainStep = record { place = 0; relation = 0; forward = false } in
    goes_on c.args.presentation.now.presentation c.args.self.now c.args.pending.now c.loop-place.self place c.loop-place.place (slice_index_or c.args.pending.now place other) other
    c.loop-place.invariant (omega (arith, c.loop-place-test.true)) (omega (arith, c.loop-place-test.true, c.loop-place.auto.place)) refl c.requires.fits c.go.new.self c.requires.begun
    c.in_ok-go.ensures

pub returns : goal.returns
returns c =
    gone_all c.args.presentation.now.presentation c.args.self.now c.args.pending.now c.loop-place.self c.loop-place.place c.loop-place.invariant (omega (arith, c.loop-place-test.false))
