use Rattle.std.proofs.Common.{ap}
use Rattle.presentation.specs.Presented.{Posed}
use Rattle.line_parts.specs.Texts.{texts}
use Rattle.line_parts.proofs.FaultLemmas.{handed_on}
use Rattle.query_lang.proofs.HeaderLemmas.{letters_missing, letters_refused, letters_told}
use Rattle.query_lang.proofs.header.outline_of.Goals as goal

pub returns-in_err-letters-clause-err : goal.returns-in_err-letters-clause-err
returns-in_err-letters-clause-err c =
    handed_on _ _ _ c.from_residual.ensures.1 (letters_missing c.args.wide c.args.monoid (texts c.args.tokens.now) _ c.in_err-letters.ensures.err)

pub returns-in_err-alphabet-clause-err : goal.returns-in_err-alphabet-clause-err
returns-in_err-alphabet-clause-err c =
    letters_refused c.args.wide c.args.monoid (texts c.args.tokens.now) _ _ _ c.from_residual-in_err-alphabet.ensures.1 c.in_ok-letters.ensures.ok c.in_err-alphabet.ensures.err

pub returns-clause-ok : goal.returns-clause-ok
returns-clause-ok c =
    letters_told c.args.wide c.args.monoid (texts c.args.tokens.now) _ _ _ c.in_ok-letters.ensures.ok c.in_ok-alphabet.ensures.ok c.in_ok-alphabet.ensures.faultless c.new.ensures

pub returns-clause-unpaired : goal.returns-clause-unpaired
returns-clause-unpaired c = ap (λ (o : Posed). o.congruence.pairs) c.new.ensures
