use Rattle.std.proofs.Common.{◌≡◌, ◌∷◌, codes, map, Ok, sym, ap, ◌∙◌, subst, subst₂}
use Rattle.line_parts.specs.Faults.{IsLineFault}
use Rattle.line_parts.specs.Fields.{field_of}
use Rattle.line_parts.specs.Texts.{texts}
use Rattle.line_parts.specs.Versions.{is_wide}
use Rattle.query_lang.specs.Grammar.{LineReads, begin_with}
use Rattle.query_lang.specs.LineCauses.{first_of, generator_causes}
use Rattle.query_lang.specs.Reading.{with_generator}
use Rattle.query_lang.proofs.FormLemmas.{in_fault}
use Rattle.query_lang.proofs.GeneratorLemmas.{generator_cause, generator_reads, generators_stay}
use Rattle.query_lang.proofs.FormLemmas.{fault_handed}
use Rattle.query_lang.proofs.reader.Reader.add_generator.Goals as goal

pub returns-in_err-with_generator-clause-err : goal.returns-in_err-with_generator-clause-err
returns-in_err-with_generator-clause-err c =
    let v = c.version-version.result in
    let d = c.into_draft-draft.result in
    let said : c.args.self ≡ begin_with v d.0 d.1 = c.into_draft-draft.ensures.draft ∙ ap (λ v. begin_with v d.0 d.1) (sym c.version-version.ensures) in
    let fields = map field_of (texts c.args.entries.now) in
    fault_handed _ _ _ c.from_residual.ensures.1
    (in_fault (with_generator (is_wide v) d c.args.name.now fields) _ _
    (ap (λ p. first_of (generator_causes p c.args.name.now fields)) said ∙ generator_cause v d.0 d.1 c.args.name.now fields c.into_draft-draft.ensures.generators)
    (subst (λ wide. IsLineFault (with_generator wide d c.args.name.now fields) c.in_err-with_generator.field-0.0) c.is_wide.ensures c.in_err-with_generator.ensures.err))

pub returns-clause-ok : goal.returns-clause-ok
returns-clause-ok c =
    let v = c.version-version.result in
    let d = c.into_draft-draft.result in
    let said : c.args.self ≡ begin_with v d.0 d.1 = c.into_draft-draft.ensures.draft ∙ ap (λ v. begin_with v d.0 d.1) (sym c.version-version.ensures) in
    let next = c.in_ok-with_generator.field-0 in
    let made : with_generator (is_wide v) d c.args.name.now (map field_of (texts c.args.entries.now)) ≡ Ok next.1 =
    ap (λ wide. with_generator wide d c.args.name.now (map field_of (texts c.args.entries.now))) (sym c.is_wide.ensures) ∙ c.in_ok-with_generator.ensures.ok in
    subst₂ (λ p q. LineReads p (c.args.name.now ∷ codes "=" ∷ texts c.args.entries.now) q) (sym said) (ap (λ s. begin_with v s next.1) (sym c.in_ok-with_generator.ensures.sizes) ∙ sym c.posing.ensures)
    (generator_reads v d.0 d.1 next.1 c.args.name.now (texts c.args.entries.now) c.into_draft-draft.ensures.generators made)

pub posing-requires : goal.posing-requires
posing-requires c = generators_stay _ c.into_draft-draft.result c.args.name.now (map field_of (texts c.args.entries.now)) _ c.into_draft-draft.ensures.generators c.in_ok-with_generator.ensures.ok
