use Rattle.std.proofs.Common.{ap, ◌∙◌}
use Rattle.std.specs.Option.{ok_or}
use Rattle.line_parts.specs.declared.cause.Cause.TheVariants.{BadNumber}
use Rattle.line_parts.specs.Texts.{texts}
use Rattle.query_lang.proofs.AddedLemmas.{cause_handed}
use Rattle.query_lang.proofs.HeaderLemmas.{size_missing, size_told}
use Rattle.query_lang.proofs.header.one_size.Goals as goal

pub returns-in_err-token-clause-err : goal.returns-in_err-token-clause-err
returns-in_err-token-clause-err c = λ problem.
    cause_handed _ _ _ c.from_residual.ensures.1 (size_missing c.args.greatest problem (texts c.args.tokens.now) _ c.in_err-token.ensures.err)

pub returns-in_err-size-clause-err : goal.returns-in_err-size-clause-err
returns-in_err-size-clause-err c = λ problem.
    cause_handed _ _ _ c.from_residual-in_err-size.ensures.1
    (size_told c.args.greatest problem (texts c.args.tokens.now) _ _ c.in_ok-token.ensures.ok (c.in_err-size.ensures.value ∙ ap (λ o. ok_or o BadNumber) c.number_within.ensures))

pub returns-clause-ok : goal.returns-clause-ok
returns-clause-ok c = λ problem.
    size_told c.args.greatest problem (texts c.args.tokens.now) _ _ c.in_ok-token.ensures.ok (c.in_ok-size.ensures.value ∙ ap (λ o. ok_or o BadNumber) c.number_within.ensures)
