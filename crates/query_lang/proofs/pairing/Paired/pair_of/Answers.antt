use Rattle.std.proofs.Common.{◌≡◌, ◌==◌, List, false, length, sym, ap, ◌∙◌, ne_eqb, subst}
use Rattle.theory.specs.Word.{Word}
use Rattle.problem.specs.Problem.{pairs_of}
use Rattle.line_parts.specs.Faults.{IsLineFault}
use Rattle.line_parts.specs.Texts.{texts}
use Rattle.line_parts.proofs.FaultLemmas.{handed_on}
use Rattle.query_lang.specs.declared.form.Form.TheVariants.{Pair}
use Rattle.query_lang.specs.Pairing.{most_pairs}
use Rattle.query_lang.specs.Values.{added_of}
use Rattle.query_lang.proofs.AddedLemmas.{made_err, made_ok, pair_in, pair_missing, pair_mixed, pair_over}
use Rattle.query_lang.proofs.pairing.Paired.pair_of.Goals as goal

few : (c : goal.After-sides) → (length (pairs_of c.args.self.now) == most_pairs) ≡ false
few c = ne_eqb _ _ (λ e. c.if-len-eq-MOST_PAIRS.false (c.len.ensures ∙ ap (λ (pairs : List (Word × Word)). length pairs) c.pairs.ensures ∙ ap (λ p. length (pairs_of p)) c.self.view_is ∙ e))

pub returns-clause-ok : goal.returns-clause-ok
returns-clause-ok c =
    made_ok (λ s. s) c.sides.result _ _ (pair_in c.args.version c.args.self.now c.args.kind _ c.in_ok-left.left.now c.in_ok-left.right.now c.in_ok-left.ensures.ok (few c) (sym c.mixes.ensures ∙ c.if-mixes.false)) c.sides.ensures.ok

pub returns-clause-err : goal.returns-clause-err
returns-clause-err c =
    made_err (λ s. s) c.sides.result _ _ (pair_in c.args.version c.args.self.now c.args.kind _ c.in_ok-left.left.now c.in_ok-left.right.now c.in_ok-left.ensures.ok (few c) (sym c.mixes.ensures ∙ c.if-mixes.false)) c.sides.ensures.err

pub returns-in_err-left-clause-err : goal.returns-in_err-left-clause-err
returns-in_err-left-clause-err c =
    handed_on _ _ _ c.from_residual.ensures.1 (pair_missing c.args.version c.args.self.now c.args.kind (texts c.args.tokens.now) _ c.in_err-left.ensures.err)

pub returns-then-len-eq-MOST_PAIRS-clause-err : goal.returns-then-len-eq-MOST_PAIRS-clause-err
returns-then-len-eq-MOST_PAIRS-clause-err c =
    subst (IsLineFault (added_of c.args.version c.args.self.now (Pair c.args.kind) (texts c.args.tokens.now))) (sym c.refused.ensures)
    (pair_over c.args.version c.args.self.now c.args.kind (texts c.args.tokens.now) _ _ c.in_ok-left.ensures.ok
    (ap (λ p. length (pairs_of p)) (sym c.self.view_is) ∙ ap (λ (pairs : List (Word × Word)). length pairs) (sym c.pairs.ensures) ∙ sym c.len.ensures ∙ c.if-len-eq-MOST_PAIRS.true))

pub returns-then-mixes-clause-err : goal.returns-then-mixes-clause-err
returns-then-mixes-clause-err c =
    subst (IsLineFault (added_of c.args.version c.args.self.now (Pair c.args.kind) (texts c.args.tokens.now))) (sym c.refused-then-mixes.ensures)
    (pair_mixed c.args.version c.args.self.now c.args.kind (texts c.args.tokens.now) _ _ c.in_ok-left.ensures.ok
    (ne_eqb _ _ (λ e. c.if-len-eq-MOST_PAIRS.false (c.len.ensures ∙ ap (λ (pairs : List (Word × Word)). length pairs) c.pairs.ensures ∙ ap (λ p. length (pairs_of p)) c.self.view_is ∙ e)))
    (sym c.mixes.ensures ∙ c.if-mixes.true))
