use Rattle.std.proofs.Common.{ℕ, [], ◌∷◌, Ok, sym, ap, ◌∙◌, length}
use Rattle.presentation.specs.Added.{zero_relations}
use Rattle.presentation.specs.Presented.{Posed}
use Rattle.line_parts.specs.Outcome.{and_then}
use Rattle.line_parts.specs.Texts.{texts}
use Rattle.line_parts.proofs.FaultLemmas.{handed_on}
use Rattle.query_lang.specs.Relations.{add_relations}
use Rattle.query_lang.proofs.AddedLemmas.{zero_related}
use Rattle.query_lang.proofs.QueryLemmas.{carried, same_fault}
use Rattle.query_lang.proofs.outline.Outline.take_zero.Goals as goal

pub add_zero-requires-clause-few : goal.add_zero-requires-clause-few
add_zero-requires-clause-few c = c.in_ok-letter.ensures.few (λ _. c.in_ok-letter.letter ∷ [])

pub returns-in_err-letter-clause-err : goal.returns-in_err-letter-clause-err
returns-in_err-letter-clause-err c =
    handed_on _ _ _ c.from_residual.ensures.1 (same_fault _ _ _ (zero_related c.args.version c.args.self.now (texts c.args.tokens.now)) (carried _ _ _ c.in_err-letter.ensures.err))

pub returns-clause-ok : goal.returns-clause-ok
returns-clause-ok c =
    zero_related c.args.version c.args.self.now (texts c.args.tokens.now)
    ∙ ap (and_then (λ (x : ℕ). Ok (add_relations c.args.self.now (zero_relations (length c.args.self.now.alphabet) x)))) c.in_ok-letter.ensures.ok
    ∙ ap (λ (o : Posed). Ok o) (sym c.in_ok-add_zero.ensures)
