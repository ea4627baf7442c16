use Rattle.line_parts.specs.Texts.{texts}
use Rattle.query_lang.proofs.HeaderLemmas.{letters_said, said_refused}
use Rattle.query_lang.proofs.reader.presented_header.Goals as goal

pub returns-in_err-outline-clause-err : goal.returns-in_err-outline-clause-err
returns-in_err-outline-clause-err c =
    said_refused c.args.version c.is_wide.result c.args.monoid (texts c.args.tokens.now) _ _ c.from_residual.ensures.1 c.is_wide.ensures c.in_err-outline.ensures.err

pub returns-clause-ok : goal.returns-clause-ok
returns-clause-ok c =
    letters_said c.args.version c.is_wide.result c.args.monoid (texts c.args.tokens.now) c.in_ok-outline.outline _ c.is_wide.ensures c.in_ok-outline.ensures.ok c.relating.ensures
