use Rattle.std.proofs.Common.{refl, ap, ◌∙◌}
use Rattle.std.specs.Option.{ok_or}
use Rattle.line_parts.specs.declared.cause.Cause.TheVariants.{BadNumber}
use Rattle.line_parts.specs.Texts.{texts}
use Rattle.query_lang.proofs.AddedLemmas.{cause_handed}
use Rattle.query_lang.proofs.HeaderLemmas.{sizes_missing, sizes_told}
use Rattle.query_lang.proofs.header.two_sizes.Goals as goal

pub returns-in_err-first-clause-err : goal.returns-in_err-first-clause-err
returns-in_err-first-clause-err c = λ problem.
    cause_handed _ _ _ c.from_residual.ensures.1 (sizes_missing problem (texts c.args.tokens.now) _ c.in_err-first.ensures.err)

pub returns-in_err-dimension-clause-err : goal.returns-in_err-dimension-clause-err
returns-in_err-dimension-clause-err c = λ problem.
    cause_handed _ _ _ c.from_residual-in_err-dimension.ensures.1
    (sizes_told problem (texts c.args.tokens.now) _ _ _ _ c.in_ok-first.ensures.ok (c.in_err-dimension.ensures.value ∙ ap (λ o. ok_or o BadNumber) c.number_within.ensures) refl)

pub returns-in_err-bound-clause-err : goal.returns-in_err-bound-clause-err
returns-in_err-bound-clause-err c = λ problem.
    cause_handed _ _ _ c.from_residual-in_err-bound.ensures.1
    (sizes_told problem (texts c.args.tokens.now) _ _ _ _ c.in_ok-first.ensures.ok (c.in_ok-dimension.ensures.value ∙ ap (λ o. ok_or o BadNumber) c.number_within.ensures) (c.in_err-bound.ensures.value ∙ ap (λ o. ok_or o BadNumber) c.number_within-2.ensures))

pub returns-clause-ok : goal.returns-clause-ok
returns-clause-ok c = λ problem.
    sizes_told problem (texts c.args.tokens.now) _ _ _ _ c.in_ok-first.ensures.ok (c.in_ok-dimension.ensures.value ∙ ap (λ o. ok_or o BadNumber) c.number_within.ensures) (c.in_ok-bound.ensures.value ∙ ap (λ o. ok_or o BadNumber) c.number_within-2.ensures)
