use Rattle.std.proofs.Common.{◌≡◌, IfErr, IfOk, List, ℕ, None, Ok, arith, rules, sym, ap, ◌∙◌, subst}
use Rattle.line_parts.specs.Faults.{IsLineFault}
use Rattle.line_parts.specs.Outcome.{and_then}
use Rattle.line_parts.specs.Texts.{texts}
use Rattle.line_parts.proofs.FaultLemmas.{handed_on}
use Rattle.query_lang.specs.declared.form.QueryForm.TheVariants as asks
use Rattle.query_lang.specs.declared.script.Query.TheVariants.{Classes}
use Rattle.query_lang.specs.Forms.{row_of}
use Rattle.query_lang.specs.Values.{made_in, scope}
use Rattle.query_lang.proofs.QueryLemmas.{count_in, page_missing, three_texts}
use Rattle.query_lang.proofs.query_line.page_of.Goals as goal

pub returns-in-len3-clause-ok : goal.returns-in-len3-clause-ok
returns-in-len3-clause-ok c relations =
    subst (λ (tokens : List (List ℕ)). IfOk c.page_after.result (λ query. made_in (scope c.args.version c.args.alphabet.now c.args.allow_empty relations) (row_of asks.Classes).ways tokens ≡ Ok query))
    (three_texts c.args.tokens.now _ _ _ (omega (arith, c.in-len3.len_at_least, c.in-len3.len_below))) (c.page_after.ensures.ok relations)

pub returns-in-len3-clause-err : goal.returns-in-len3-clause-err
returns-in-len3-clause-err c relations =
    subst (λ (tokens : List (List ℕ)). IfErr c.page_after.result (IsLineFault (made_in (scope c.args.version c.args.alphabet.now c.args.allow_empty relations) (row_of asks.Classes).ways tokens)))
    (three_texts c.args.tokens.now _ _ _ (omega (arith, c.in-len3.len_at_least, c.in-len3.len_below))) (c.page_after.ensures.err relations)

pub returns-in_err-count_of-in-len1-clause-err : goal.returns-in_err-count_of-in-len1-clause-err
returns-in_err-count_of-in-len1-clause-err c relations =
    handed_on _ _ _ c.from_residual.ensures.1
    (count_in (scope c.args.version c.args.alphabet.now c.args.allow_empty relations) c.args.tokens.now _ (omega (arith, c.in-len1.len_at_least, c.in-len1.len_below))
    ∙ ap (and_then (λ (n : ℕ). Ok (Classes n None))) (sym c.in_err-count_of-in-len1.ensures))

pub returns-in_ok-count_of-in-len1-clause-ok : goal.returns-in_ok-count_of-in-len1-clause-ok
returns-in_ok-count_of-in-len1-clause-ok c relations =
    count_in (scope c.args.version c.args.alphabet.now c.args.allow_empty relations) c.args.tokens.now _ (omega (arith, c.in-len1.len_at_least, c.in-len1.len_below))
    ∙ ap (and_then (λ (n : ℕ). Ok (Classes n None))) (sym c.in_ok-count_of-in-len1.ensures)

pub returns-in_default-clause-err : goal.returns-in_default-clause-err
returns-in_default-clause-err c relations =
    let s = (scope c.args.version c.args.alphabet.now c.args.allow_empty relations) in
    subst (IsLineFault (made_in s (row_of asks.Classes).ways (texts c.args.tokens.now))) (sym c.refused.ensures)
    (page_missing s c.args.tokens.now (search rules) (search rules))
