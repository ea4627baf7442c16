use Rattle.std.proofs.Common.{Ok, sym, ap, ◌∙◌, subst}
use Rattle.line_parts.specs.Texts.{texts}
use Rattle.query_lang.specs.Header.{Start}
use Rattle.query_lang.specs.Reading.{AreGenerators}
use Rattle.query_lang.proofs.AddedLemmas.{cause_handed}
use Rattle.query_lang.proofs.HeaderLemmas.{kind_told, none_generated}
use Rattle.query_lang.proofs.header.header_of.Goals as goal

pub returns-in_err-kind-clause-err : goal.returns-in_err-kind-clause-err
returns-in_err-kind-clause-err c =
    cause_handed _ _ _ c.from_residual.ensures.1 (kind_told c.args.name.now (texts c.args.tokens.now) _ _ c.named_kind.ensures c.in_err-kind.ensures.value)

pub returns-in_err-sizes-clause-err : goal.returns-in_err-sizes-clause-err
returns-in_err-sizes-clause-err c =
    cause_handed _ _ _ c.from_residual-in_err-sizes.ensures.1
    (kind_told c.args.name.now (texts c.args.tokens.now) _ _ c.named_kind.ensures c.in_ok-kind.ensures.value ∙ c.in_err-sizes.ensures.err)

pub returns-clause-ok : goal.returns-clause-ok
returns-clause-ok c =
    kind_told c.args.name.now (texts c.args.tokens.now) _ _ c.named_kind.ensures c.in_ok-kind.ensures.value
    ∙ c.in_ok-sizes.ensures.ok
    ∙ ap (λ (s : Start). Ok s) (sym c.new.ensures)

pub returns-clause-generators : goal.returns-clause-generators
returns-clause-generators c = subst (λ (s : Start). AreGenerators s.1) (sym c.new.ensures) (none_generated c.in_ok-kind.kind)
