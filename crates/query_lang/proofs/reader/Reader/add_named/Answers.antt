use Rattle.std.proofs.Common.{◌≡◌, ◌∷◌, IfErr, Some, None, sym, ap₂, ◌∙◌, subst}
use Rattle.problem.specs.Problem.{is_presented}
use Rattle.line_parts.specs.Texts.{texts}
use Rattle.query_lang.specs.Faults.{IsFaultFor}
use Rattle.query_lang.specs.Forms.{all_forms, form_named}
use Rattle.query_lang.specs.LineCauses.{first_of, line_causes}
use Rattle.query_lang.proofs.FormLemmas.{named_cause}
use Rattle.query_lang.proofs.QueryLemmas.{form_found}
use Rattle.query_lang.proofs.ReaderLemmas.{form_reads, read_by}
use Rattle.query_lang.proofs.reader.Reader.add_named.Goals as goal

pub add_form-requires : goal.add_form-requires
add_form-requires c =
    let named : form_named c.args.self.head.version (is_presented c.args.self.problem) c.args.first.now ≡ Some c.in-Some.form =
    sym (c.form_named.ensures ∙ ap₂ (λ version kind. form_named version kind c.args.first.now) c.version.ensures c.is_presentation.ensures) ∙ c.in-Some.is in
    (form_found c.args.self.head.version (is_presented c.args.self.problem) all_forms c.args.first.now c.in-Some.form named).there

pub returns-in-Some-clause-ok : goal.returns-in-Some-clause-ok
returns-in-Some-clause-ok c =
    let named : form_named c.args.self.head.version (is_presented c.args.self.problem) c.args.first.now ≡ Some c.in-Some.form =
    sym (c.form_named.ensures ∙ ap₂ (λ version kind. form_named version kind c.args.first.now) c.version.ensures c.is_presentation.ensures) ∙ c.in-Some.is in
    let read = c.add_form.ensures in
    read_by c.add_form.result read.early read.some read.ok (λ next early some is. form_reads c.args.self c.in-Some.form c.args.first.now (texts c.args.tokens.now) next some early c.requires named is)

pub returns-in-Some-clause-err : goal.returns-in-Some-clause-err
returns-in-Some-clause-err c =
    let named : form_named c.args.self.head.version (is_presented c.args.self.problem) c.args.first.now ≡ Some c.in-Some.form =
    sym (c.form_named.ensures ∙ ap₂ (λ version kind. form_named version kind c.args.first.now) c.version.ensures c.is_presentation.ensures) ∙ c.in-Some.is in
    subst (λ first. IfErr c.add_form.result (IsFaultFor first)) (sym (named_cause c.args.self c.args.first.now (texts c.args.tokens.now) (Some c.in-Some.form) c.requires named)) c.add_form.ensures.err

pub returns-in-None-clause-err : goal.returns-in-None-clause-err
returns-in-None-clause-err c =
    let named : form_named c.args.self.head.version (is_presented c.args.self.problem) c.args.first.now ≡ None =
    sym (c.form_named.ensures ∙ ap₂ (λ version kind. form_named version kind c.args.first.now) c.version.ensures c.is_presentation.ensures) ∙ c.in-None.is in
    subst (IsFaultFor (first_of (line_causes c.args.self (c.args.first.now ∷ texts c.args.tokens.now)))) (sym c.refused_after.ensures)
    (named_cause c.args.self c.args.first.now (texts c.args.tokens.now) None c.requires named)
