use Rattle.std.proofs.Common.{◌≡◌, ◌==◌, false, [], ◌∷◌, length, sym, ap, ◌∙◌, ne_eqb, subst}
use Rattle.problem.specs.declared.kinds.Problem.TheVariants.{Presented}
use Rattle.line_parts.specs.Faults.{IsLineFault}
use Rattle.line_parts.specs.Texts.{texts}
use Rattle.line_parts.proofs.FaultLemmas.{handed_on}
use Rattle.query_lang.specs.declared.form.Form.TheVariants.{Relation}
use Rattle.query_lang.specs.Relations.{most_relations}
use Rattle.query_lang.specs.Values.{added_of}
use Rattle.query_lang.proofs.AddedLemmas.{made_err, made_ok, relation_in, relation_missing, relation_over}
use Rattle.query_lang.proofs.outline.Outline.relation_of.Goals as goal

few : (c : goal.After-sides) → (length c.args.self.now.congruence.presentation.relations == most_relations) ≡ false
few c = ne_eqb _ _ (λ e. c.if-len-eq-MOST_RELATIONS.false (c.len.ensures ∙ ap length c.relations.ensures.relations ∙ ap (λ o. length o.congruence.presentation.relations) c.self.view_is ∙ e))

pub returns-clause-ok : goal.returns-clause-ok
returns-clause-ok c =
    made_ok (λ s. s ∷ []) c.sides.result _ _ (relation_in c.args.version c.args.self.now _ c.in_ok-left.left.now c.in_ok-left.right.now c.in_ok-left.ensures.ok (few c)) c.sides.ensures.ok

pub returns-clause-err : goal.returns-clause-err
returns-clause-err c =
    made_err (λ s. s ∷ []) c.sides.result _ _ (relation_in c.args.version c.args.self.now _ c.in_ok-left.left.now c.in_ok-left.right.now c.in_ok-left.ensures.ok (few c)) c.sides.ensures.err

pub returns-in_err-left-clause-err : goal.returns-in_err-left-clause-err
returns-in_err-left-clause-err c =
    handed_on _ _ _ c.from_residual.ensures.1 (relation_missing c.args.version c.args.self.now (texts c.args.tokens.now) _ c.in_err-left.ensures.err)

pub returns-then-len-eq-MOST_RELATIONS-clause-err : goal.returns-then-len-eq-MOST_RELATIONS-clause-err
returns-then-len-eq-MOST_RELATIONS-clause-err c =
    subst (IsLineFault (added_of c.args.version (Presented c.args.self.now) Relation (texts c.args.tokens.now))) (sym c.refused.ensures)
    (relation_over c.args.version c.args.self.now (texts c.args.tokens.now) _ _ c.in_ok-left.ensures.ok
    (ap (λ o. length o.congruence.presentation.relations) (sym c.self.view_is) ∙ ap length (sym c.relations.ensures.relations) ∙ sym c.len.ensures ∙ c.if-len-eq-MOST_RELATIONS.true))
