use Rattle.std.proofs.Common.{◌≡◌, Ok, ap, ◌∙◌, subst, sym}
use Rattle.problem.specs.declared.kinds.Problem.TheVariants.{Transf, PPerm, BMat, MaxPlus}
use Rattle.line_parts.specs.Elements.{boolean_matrix_of, partial_permutation_of, transformation_of, truncated_matrix_of}
use Rattle.line_parts.specs.Faults.{IsLineFault}
use Rattle.line_parts.specs.Outcome.{and_then}
use Rattle.line_parts.proofs.FaultLemmas.{handed_on}
use Rattle.query_lang.specs.Draft.{with_one}
use Rattle.query_lang.specs.Header.{Start}
use Rattle.query_lang.specs.Reading.{with_generator}
use Rattle.query_lang.proofs.GeneratorLemmas.{kind_is}
use Rattle.query_lang.proofs.QueryLemmas.{carried, same_fault}
use Rattle.query_lang.proofs.DraftLemmas.{seen}
use Rattle.query_lang.proofs.draft.Draft.with_fields.Goals as goal

pub returns-in_err-with_generator-in-Transf-clause-err : goal.returns-in_err-with_generator-in-Transf-clause-err
returns-in_err-with_generator-in-Transf-clause-err c =
    let is : ◌≡◌ {A = Start} c.args.self (c.in-Transf.draft.sizes, Transf c.in-Transf.draft.posed) = sym c.self.view_is ∙ ap seen c.in-Transf.is in
    handed_on _ _ _ c.from_residual.ensures.1
    (same_fault _ _ _ (ap (λ s. with_generator c.args.wide s c.args.name.now c.args.fields.now) is ∙ kind_is transformation_of (λ p. Transf p) c.args.wide c.in-Transf.draft c.args.name.now c.args.fields.now)
    (carried (λ p. Transf p) _ _ (subst (λ d. IsLineFault (with_one transformation_of c.args.wide d c.args.name.now c.args.fields.now) c.in_err-with_generator-in-Transf.field-0.0) c.in-Transf.draft-is c.in_err-with_generator-in-Transf.ensures.err)))

pub returns-in_ok-with_generator-in-Transf-clause-ok : goal.returns-in_ok-with_generator-in-Transf-clause-ok
returns-in_ok-with_generator-in-Transf-clause-ok c =
    let is : ◌≡◌ {A = Start} c.args.self (c.in-Transf.draft.sizes, Transf c.in-Transf.draft.posed) = sym c.self.view_is ∙ ap seen c.in-Transf.is in
    ap (λ s. with_generator c.args.wide s c.args.name.now c.args.fields.now) is
    ∙ kind_is transformation_of (λ p. Transf p) c.args.wide c.in-Transf.draft c.args.name.now c.args.fields.now
    ∙ ap (and_then (λ p. Ok (Transf p))) (subst (λ d. with_one transformation_of c.args.wide d c.args.name.now c.args.fields.now ≡ Ok c.in_ok-with_generator-in-Transf.field-0.posed) c.in-Transf.draft-is c.in_ok-with_generator-in-Transf.ensures.ok)

pub returns-in_err-with_generator-in-PPerm-clause-err : goal.returns-in_err-with_generator-in-PPerm-clause-err
returns-in_err-with_generator-in-PPerm-clause-err c =
    let is : ◌≡◌ {A = Start} c.args.self (c.in-PPerm.draft.sizes, PPerm c.in-PPerm.draft.posed) = sym c.self.view_is ∙ ap seen c.in-PPerm.is in
    handed_on _ _ _ c.from_residual-in_err-with_generator-in-PPerm.ensures.1
    (same_fault _ _ _ (ap (λ s. with_generator c.args.wide s c.args.name.now c.args.fields.now) is ∙ kind_is partial_permutation_of (λ p. PPerm p) c.args.wide c.in-PPerm.draft c.args.name.now c.args.fields.now)
    (carried (λ p. PPerm p) _ _ (subst (λ d. IsLineFault (with_one partial_permutation_of c.args.wide d c.args.name.now c.args.fields.now) c.in_err-with_generator-in-PPerm.field-0.0) c.in-PPerm.draft-is c.in_err-with_generator-in-PPerm.ensures.err)))

pub returns-in_ok-with_generator-in-PPerm-clause-ok : goal.returns-in_ok-with_generator-in-PPerm-clause-ok
returns-in_ok-with_generator-in-PPerm-clause-ok c =
    let is : ◌≡◌ {A = Start} c.args.self (c.in-PPerm.draft.sizes, PPerm c.in-PPerm.draft.posed) = sym c.self.view_is ∙ ap seen c.in-PPerm.is in
    ap (λ s. with_generator c.args.wide s c.args.name.now c.args.fields.now) is
    ∙ kind_is partial_permutation_of (λ p. PPerm p) c.args.wide c.in-PPerm.draft c.args.name.now c.args.fields.now
    ∙ ap (and_then (λ p. Ok (PPerm p))) (subst (λ d. with_one partial_permutation_of c.args.wide d c.args.name.now c.args.fields.now ≡ Ok c.in_ok-with_generator-in-PPerm.field-0.posed) c.in-PPerm.draft-is c.in_ok-with_generator-in-PPerm.ensures.ok)

pub returns-in_err-with_generator-in-BMat-clause-err : goal.returns-in_err-with_generator-in-BMat-clause-err
returns-in_err-with_generator-in-BMat-clause-err c =
    let is : ◌≡◌ {A = Start} c.args.self (c.in-BMat.draft.sizes, BMat c.in-BMat.draft.posed) = sym c.self.view_is ∙ ap seen c.in-BMat.is in
    handed_on _ _ _ c.from_residual-in_err-with_generator-in-BMat.ensures.1
    (same_fault _ _ _ (ap (λ s. with_generator c.args.wide s c.args.name.now c.args.fields.now) is ∙ kind_is boolean_matrix_of (λ p. BMat p) c.args.wide c.in-BMat.draft c.args.name.now c.args.fields.now)
    (carried (λ p. BMat p) _ _ (subst (λ d. IsLineFault (with_one boolean_matrix_of c.args.wide d c.args.name.now c.args.fields.now) c.in_err-with_generator-in-BMat.field-0.0) c.in-BMat.draft-is c.in_err-with_generator-in-BMat.ensures.err)))

pub returns-in_ok-with_generator-in-BMat-clause-ok : goal.returns-in_ok-with_generator-in-BMat-clause-ok
returns-in_ok-with_generator-in-BMat-clause-ok c =
    let is : ◌≡◌ {A = Start} c.args.self (c.in-BMat.draft.sizes, BMat c.in-BMat.draft.posed) = sym c.self.view_is ∙ ap seen c.in-BMat.is in
    ap (λ s. with_generator c.args.wide s c.args.name.now c.args.fields.now) is
    ∙ kind_is boolean_matrix_of (λ p. BMat p) c.args.wide c.in-BMat.draft c.args.name.now c.args.fields.now
    ∙ ap (and_then (λ p. Ok (BMat p))) (subst (λ d. with_one boolean_matrix_of c.args.wide d c.args.name.now c.args.fields.now ≡ Ok c.in_ok-with_generator-in-BMat.field-0.posed) c.in-BMat.draft-is c.in_ok-with_generator-in-BMat.ensures.ok)

pub returns-in_err-with_generator-in-MaxPlus-clause-err : goal.returns-in_err-with_generator-in-MaxPlus-clause-err
returns-in_err-with_generator-in-MaxPlus-clause-err c =
    let is : ◌≡◌ {A = Start} c.args.self (c.in-MaxPlus.draft.sizes, MaxPlus c.in-MaxPlus.draft.posed) = sym c.self.view_is ∙ ap seen c.in-MaxPlus.is in
    handed_on _ _ _ c.from_residual-in_err-with_generator-in-MaxPlus.ensures.1
    (same_fault _ _ _ (ap (λ s. with_generator c.args.wide s c.args.name.now c.args.fields.now) is ∙ kind_is truncated_matrix_of (λ p. MaxPlus p) c.args.wide c.in-MaxPlus.draft c.args.name.now c.args.fields.now)
    (carried (λ p. MaxPlus p) _ _ (subst (λ d. IsLineFault (with_one truncated_matrix_of c.args.wide d c.args.name.now c.args.fields.now) c.in_err-with_generator-in-MaxPlus.field-0.0) c.in-MaxPlus.draft-is c.in_err-with_generator-in-MaxPlus.ensures.err)))

pub returns-in_ok-with_generator-in-MaxPlus-clause-ok : goal.returns-in_ok-with_generator-in-MaxPlus-clause-ok
returns-in_ok-with_generator-in-MaxPlus-clause-ok c =
    let is : ◌≡◌ {A = Start} c.args.self (c.in-MaxPlus.draft.sizes, MaxPlus c.in-MaxPlus.draft.posed) = sym c.self.view_is ∙ ap seen c.in-MaxPlus.is in
    ap (λ s. with_generator c.args.wide s c.args.name.now c.args.fields.now) is
    ∙ kind_is truncated_matrix_of (λ p. MaxPlus p) c.args.wide c.in-MaxPlus.draft c.args.name.now c.args.fields.now
    ∙ ap (and_then (λ p. Ok (MaxPlus p))) (subst (λ d. with_one truncated_matrix_of c.args.wide d c.args.name.now c.args.fields.now ≡ Ok c.in_ok-with_generator-in-MaxPlus.field-0.posed) c.in-MaxPlus.draft-is c.in_ok-with_generator-in-MaxPlus.ensures.ok)
