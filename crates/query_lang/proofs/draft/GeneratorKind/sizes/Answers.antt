use Rattle.std.proofs.Common.{◌≡◌, IfErr, IfOk, Ok, Err, sym, subst}
use Rattle.problem.specs.declared.kinds.Problem.TheVariants.{Transf, PPerm, BMat, MaxPlus}
use Rattle.line_parts.specs.Texts.{texts}
use Rattle.query_lang.specs.Header.{header_for, no_generators, none_of, told}
use Rattle.query_lang.proofs.draft.GeneratorKind.sizes.Goals as goal

pub returns-in-Transf-clause-ok : goal.returns-in-Transf-clause-ok
returns-in-Transf-clause-ok c =
    subst (λ kind. IfOk c.one_size.result (λ sizes. told (header_for kind) (texts c.args.tokens.now) ≡ Ok (sizes, none_of kind))) (sym c.in-Transf.is) (c.one_size.ensures.ok (Transf no_generators))

pub returns-in-Transf-clause-err : goal.returns-in-Transf-clause-err
returns-in-Transf-clause-err c =
    subst (λ kind. IfErr c.one_size.result (λ cause. told (header_for kind) (texts c.args.tokens.now) ≡ Err cause)) (sym c.in-Transf.is) (c.one_size.ensures.err (Transf no_generators))

pub returns-in-PPerm-clause-ok : goal.returns-in-PPerm-clause-ok
returns-in-PPerm-clause-ok c =
    subst (λ kind. IfOk c.one_size-in-PPerm.result (λ sizes. told (header_for kind) (texts c.args.tokens.now) ≡ Ok (sizes, none_of kind))) (sym c.in-PPerm.is) (c.one_size-in-PPerm.ensures.ok (PPerm no_generators))

pub returns-in-PPerm-clause-err : goal.returns-in-PPerm-clause-err
returns-in-PPerm-clause-err c =
    subst (λ kind. IfErr c.one_size-in-PPerm.result (λ cause. told (header_for kind) (texts c.args.tokens.now) ≡ Err cause)) (sym c.in-PPerm.is) (c.one_size-in-PPerm.ensures.err (PPerm no_generators))

pub returns-in-BMat-clause-ok : goal.returns-in-BMat-clause-ok
returns-in-BMat-clause-ok c =
    subst (λ kind. IfOk c.one_size-in-BMat.result (λ sizes. told (header_for kind) (texts c.args.tokens.now) ≡ Ok (sizes, none_of kind))) (sym c.in-BMat.is) (c.one_size-in-BMat.ensures.ok (BMat no_generators))

pub returns-in-BMat-clause-err : goal.returns-in-BMat-clause-err
returns-in-BMat-clause-err c =
    subst (λ kind. IfErr c.one_size-in-BMat.result (λ cause. told (header_for kind) (texts c.args.tokens.now) ≡ Err cause)) (sym c.in-BMat.is) (c.one_size-in-BMat.ensures.err (BMat no_generators))

pub returns-in-MaxPlus-clause-ok : goal.returns-in-MaxPlus-clause-ok
returns-in-MaxPlus-clause-ok c =
    subst (λ kind. IfOk c.two_sizes.result (λ sizes. told (header_for kind) (texts c.args.tokens.now) ≡ Ok (sizes, none_of kind))) (sym c.in-MaxPlus.is) (c.two_sizes.ensures.ok (MaxPlus no_generators))

pub returns-in-MaxPlus-clause-err : goal.returns-in-MaxPlus-clause-err
returns-in-MaxPlus-clause-err c =
    subst (λ kind. IfErr c.two_sizes.result (λ cause. told (header_for kind) (texts c.args.tokens.now) ≡ Err cause)) (sym c.in-MaxPlus.is) (c.two_sizes.ensures.err (MaxPlus no_generators))
