use Rattle.std.proofs.Common.{sym, subst, ◌∙◌}
use Rattle.std.proofs.lemmas.Result.{on_ok_weaker}
use Rattle.theory.specs.PlacedStep.{Gives}
use Rattle.theory.proofs.PlacedChains.{gives_one}
use Rattle.chains.specs.Chains.{Fits, step_of}
use Rattle.chains.proofs.ChainLaws.{given, not_given}
use Rattle.chains.proofs.walks.Walk.go.Goals as goal

pub unreachable-requires : goal.unreachable-requires
unreachable-requires c =
    let p = c.args.presentation.now.presentation in
    not_given p c.here.result.now (step_of c.args.step) c.in_ok-next.field-0 c.in_ok-next.ensures c.in_default.is
    (subst (λ w. Fits p w (step_of c.args.step)) (sym c.here.ensures) c.requires.fits)

pub returns : goal.returns
returns c =
    let p = c.args.presentation.now.presentation in
    let step = step_of c.args.step in
    let next = given p c.here.result.now step c.in_ok-next.field-0 c.in-Some.next c.in_ok-next.ensures c.in-Some.is in
    let gives = subst (λ w. Gives p w step c.in-Some.next) c.here.ensures next in
    on_ok_weaker c.reach.result
    (λ h u v walk at.
    let went = h p u walk gives in
    (went.0, went.1 ∙ gives_one p _ step c.in-Some.next v gives at))
    c.reach.ensures
