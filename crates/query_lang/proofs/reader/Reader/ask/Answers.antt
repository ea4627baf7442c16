use Rattle.std.proofs.Common.{Ok, sym, ap, ◌∙◌}
use Rattle.line_parts.specs.Outcome.{and_then}
use Rattle.query_lang.specs.Grammar.{Partial}
use Rattle.query_lang.specs.Reading.{come_to}
use Rattle.query_lang.proofs.QueryLemmas.{carried, same_fault}
use Rattle.query_lang.proofs.ReaderLemmas.{query_is, query_there}
use Rattle.query_lang.proofs.reader.Reader.ask.Goals as goal

pub asking-requires : goal.asking-requires
asking-requires c = query_there c.version-version.result c.in_ok-script.script _ c.args.form _ c.in-Ok.ensures.ok

pub returns-in-Ok-clause-ok : goal.returns-in-Ok-clause-ok
returns-in-Ok-clause-ok c =
    query_is c.args.self c.in_ok-script.script c.args.form _ c.version-version.result c.sizes-sizes.result c.version-version.ensures c.sizes-sizes.ensures c.in_ok-script.ensures
    ∙ ap (and_then (λ n. Ok (come_to c.version-version.result c.sizes-sizes.result n))) c.in-Ok.ensures.ok
    ∙ ap (λ (p : Partial). Ok p) (sym c.asking.ensures)

pub returns-in-Err-clause-err : goal.returns-in-Err-clause-err
returns-in-Err-clause-err c =
    same_fault _ _ _ (query_is c.args.self c.in_ok-script.script c.args.form _ c.version-version.result c.sizes-sizes.result c.version-version.ensures c.sizes-sizes.ensures c.in_ok-script.ensures) (carried _ _ _ c.in-Err.ensures.err)
