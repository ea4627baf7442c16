use Rattle.std.proofs.Common.{◌≡◌, drop}
use Rattle.query_lang.specs.Forms.{all_forms, form_among, form_named}
use Rattle.query_lang.proofs.form.form_named.Given as goal

abbrev pub invariant-loop-form : goal.invariant-loop-form
invariant-loop-form l = record {
  items : l.form-items ≡ all_forms;
  rest : form_among l.version l.is_presentation (drop l.form-index l.form-items) l.token ≡ form_named l.version l.is_presentation l.token;
}
