use Rattle.std.proofs.Common.{Ok, sym, ap, ◌∙◌}
use Rattle.line_parts.specs.Outcome.{and_then}
use Rattle.line_parts.proofs.FaultLemmas.{handed_on}
use Rattle.query_lang.specs.Grammar.{Partial, begin_with}
use Rattle.query_lang.proofs.QueryLemmas.{carried, same_fault}
use Rattle.query_lang.proofs.ReaderLemmas.{pair_is, pair_there}
use Rattle.query_lang.proofs.reader.Reader.add_pair.Goals as goal

pub returns-in_err-with_pair-clause-err : goal.returns-in_err-with_pair-clause-err
returns-in_err-with_pair-clause-err c =
    handed_on _ _ _ c.from_residual-in_err-with_pair.ensures.1
    (same_fault _ _ _ (pair_is c.args.self c.in_ok-paired.paired c.args.kind _ c.version-version.result c.sizes-sizes.result c.version-version.ensures c.sizes-sizes.ensures c.in_ok-paired.ensures) (carried _ _ _ c.in_err-with_pair.ensures.err))

pub pairing-requires : goal.pairing-requires
pairing-requires c = pair_there c.in_ok-paired.paired _ c.args.kind _ c.in_ok-with_pair.ensures.ok

pub returns-clause-ok : goal.returns-clause-ok
returns-clause-ok c =
    pair_is c.args.self c.in_ok-paired.paired c.args.kind _ c.version-version.result c.sizes-sizes.result c.version-version.ensures c.sizes-sizes.ensures c.in_ok-paired.ensures
    ∙ ap (and_then (λ n. Ok (begin_with c.version-version.result c.sizes-sizes.result n))) c.in_ok-with_pair.ensures.ok
    ∙ ap (λ (p : Partial). Ok p) (sym c.pairing.ensures)
