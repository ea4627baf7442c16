use Rattle.std.proofs.Common.{◌≡◌, IfErr, IfOk, List, ℕ, Ok, arith, rules, subst, sym}
use Rattle.line_parts.specs.Faults.{IsLineFault}
use Rattle.line_parts.specs.Texts.{texts}
use Rattle.line_parts.proofs.FaultLemmas.{handed_on}
use Rattle.query_lang.specs.declared.form.QueryForm.TheVariants as asks
use Rattle.query_lang.specs.Forms.{row_of}
use Rattle.query_lang.specs.Values.{made_in, scope}
use Rattle.query_lang.proofs.QueryLemmas.{four_texts, limits_made, limits_refused, search_missing}
use Rattle.query_lang.proofs.query_line.search_of.Goals as goal

pub returns-in_err-classes-in-len2-clause-err : goal.returns-in_err-classes-in-len2-clause-err
returns-in_err-classes-in-len2-clause-err c version relations =
    handed_on _ _ _ c.from_residual.ensures.1
    (limits_refused (scope version c.args.alphabet.now c.args.is_monoid relations) c.args.two_sided c.args.tokens.now _ _ _ (omega (arith, c.in-len2.len_at_least, c.in-len2.len_below)) (sym c.in_err-classes-in-len2.ensures.limits))

pub returns-in-len4-clause-ok : goal.returns-in-len4-clause-ok
returns-in-len4-clause-ok c version relations =
    subst (λ (tokens : List (List ℕ)). IfOk c.search_after.result (λ query. made_in (scope version c.args.alphabet.now c.args.is_monoid relations) (row_of (asks.LowIndex c.args.two_sided)).ways tokens ≡ Ok query))
    (four_texts c.args.tokens.now _ _ _ _ (omega (arith, c.in-len4.len_at_least, c.in-len4.len_below))) (c.search_after.ensures.ok version relations)

pub returns-in-len4-clause-err : goal.returns-in-len4-clause-err
returns-in-len4-clause-err c version relations =
    subst (λ (tokens : List (List ℕ)). IfErr c.search_after.result (IsLineFault (made_in (scope version c.args.alphabet.now c.args.is_monoid relations) (row_of (asks.LowIndex c.args.two_sided)).ways tokens)))
    (four_texts c.args.tokens.now _ _ _ _ (omega (arith, c.in-len4.len_at_least, c.in-len4.len_below))) (c.search_after.ensures.err version relations)

pub returns-in_ok-classes-in-len2-clause-ok : goal.returns-in_ok-classes-in-len2-clause-ok
returns-in_ok-classes-in-len2-clause-ok c version relations =
    limits_made (scope version c.args.alphabet.now c.args.is_monoid relations) c.args.two_sided c.args.tokens.now _ _ _ _ (omega (arith, c.in-len2.len_at_least, c.in-len2.len_below)) (sym c.in_ok-classes-in-len2.ensures.limits)

pub returns-in_ok-classes-in-len2-clause-over : goal.returns-in_ok-classes-in-len2-clause-over
returns-in_ok-classes-in-len2-clause-over c relations = c.in_ok-classes-in-len2.ensures.allowed

pub returns-in_default-clause-err : goal.returns-in_default-clause-err
returns-in_default-clause-err c version relations =
    let s = scope version c.args.alphabet.now c.args.is_monoid relations in
    subst (IsLineFault (made_in s (row_of (asks.LowIndex c.args.two_sided)).ways (texts c.args.tokens.now))) (sym c.refused.ensures)
    (search_missing s c.args.two_sided c.args.tokens.now (search rules) (search rules))
