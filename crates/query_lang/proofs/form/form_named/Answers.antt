use Rattle.std.proofs.Common.{◌+◌, refl, sym, ◌∙◌, arith}
use Rattle.query_lang.specs.declared.form.Form.TheVariants.{Relation}
use Rattle.query_lang.specs.Forms.{all_forms}
use Rattle.query_lang.proofs.QueryLemmas.{form_missing, form_passed, form_taken}
use Rattle.query_lang.proofs.form.form_named.Goals as goal

pub loop-form-preserved : goal.loop-form-preserved
loop-form-preserved c = record {
  items = refl;
  rest = form_passed c.args.version c.args.is_presentation all_forms c.args.token.now c.loop-form.form-index (c.loop-form.form-index + 1) Relation (omega arith) c.loop-form-test.true (sym c.is_named.ensures ∙ c.if-is_named.false)
      ∙ c.loop-form.invariant.rest;
}

pub returns-then-is_named : goal.returns-then-is_named
returns-then-is_named c =
    sym (form_taken c.args.version c.args.is_presentation all_forms c.args.token.now c.loop-form.form-index Relation c.loop-form-test.true (sym c.is_named.ensures ∙ c.if-is_named.true))
    ∙ c.loop-form.invariant.rest

pub returns : goal.returns
returns c =
    sym (form_missing c.args.version c.args.is_presentation all_forms c.args.token.now c.loop-form.form-index c.loop-form-test.false) ∙ c.loop-form.invariant.rest
