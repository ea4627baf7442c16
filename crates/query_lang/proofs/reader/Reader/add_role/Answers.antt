use Rattle.std.proofs.Common.{Ok, sym, ap, ◌∙◌}
use Rattle.problem.specs.declared.kinds.Problem.TheVariants.{Presented}
use Rattle.line_parts.specs.Outcome.{and_then}
use Rattle.query_lang.specs.Grammar.{Partial, begin_with}
use Rattle.query_lang.proofs.QueryLemmas.{carried, same_fault}
use Rattle.query_lang.proofs.ReaderLemmas.{role_is, still_unpaired}
use Rattle.query_lang.proofs.reader.Reader.add_role.Goals as goal

pub returns-in-Err-clause-err : goal.returns-in-Err-clause-err
returns-in-Err-clause-err c =
    same_fault _ _ _ (role_is c.args.self c.into_outline-outline.result c.args.role _ c.version-version.result c.version-version.ensures c.into_outline-outline.ensures.outline) (carried _ _ _ c.in-Err.ensures.err)

pub returns-in-Ok-clause-ok : goal.returns-in-Ok-clause-ok
returns-in-Ok-clause-ok c =
    role_is c.args.self c.into_outline-outline.result c.args.role _ c.version-version.result c.version-version.ensures c.into_outline-outline.ensures.outline
    ∙ ap (and_then (λ n. Ok (begin_with c.version-version.result (0, 0) (Presented n)))) c.in-Ok.ensures.ok
    ∙ ap (λ (p : Partial). Ok p) (sym c.relating.ensures)

pub relating-requires : goal.relating-requires
relating-requires c = still_unpaired _ _ _ c.into_outline-outline.ensures.unpaired c.in-Ok.ensures.ok
