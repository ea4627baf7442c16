use Rattle.std.proofs.Common.{◌≡◌, ◌≤◌, false, arith, sym, ◌∙◌, subst}
use Rattle.std.proofs.lemmas.Result.{IfErr-weaker}
use Rattle.line_parts.specs.Texts.{texts}
use Rattle.query_lang.specs.Faults.{IsFaultFor}
use Rattle.query_lang.specs.Forms.{section_of}
use Rattle.query_lang.specs.Grammar.{lacks_generator, section_reached}
use Rattle.query_lang.specs.LineCauses.{first_of, form_causes}
use Rattle.query_lang.specs.Reading.{added_to}
use Rattle.query_lang.proofs.FormLemmas.{form_cause, form_lacks, form_late, in_fault}
use Rattle.query_lang.proofs.reader.Reader.add_form.Goals as goal

pub returns-then-section-clause-err : goal.returns-then-section-clause-err
returns-then-section-clause-err c =
    subst (IsFaultFor (first_of (form_causes c.args.self c.args.form (texts c.args.tokens.now)))) (sym c.refused_after.ensures) (form_late c.args.self c.args.form (texts c.args.tokens.now) (omega arith))

pub returns-then-lacks_generator-clause-err : goal.returns-then-lacks_generator-clause-err
returns-then-lacks_generator-clause-err c =
    subst (IsFaultFor (first_of (form_causes c.args.self c.args.form (texts c.args.tokens.now)))) (sym c.refused_after-then-lacks_generator.ensures)
    (form_lacks c.args.self c.args.form (texts c.args.tokens.now) (omega arith) (sym c.lacks_generator.ensures ∙ c.if-lacks_generator.true))

pub with_form-requires-clause-early : goal.with_form-requires-clause-early
with_form-requires-clause-early c = omega arith

pub with_form-requires-clause-some : goal.with_form-requires-clause-some
with_form-requires-clause-some c = sym c.lacks_generator.ensures ∙ c.if-lacks_generator.false

pub returns-clause-err : goal.returns-clause-err
returns-clause-err c =
    let some : lacks_generator c.args.self ≡ false = sym c.lacks_generator.ensures ∙ c.if-lacks_generator.false in
    let early : section_reached c.args.self ≤ section_of c.args.form = omega arith in
    IfErr-weaker c.with_form.result _ _ (λ fault h. in_fault (added_to c.args.self c.args.form (texts c.args.tokens.now)) _ fault (form_cause c.args.self c.args.form (texts c.args.tokens.now) some early) h)
    c.with_form.ensures.err
