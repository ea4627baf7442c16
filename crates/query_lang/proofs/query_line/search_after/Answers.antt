use Rattle.std.proofs.Common.{[], ◌∷◌, sym, ◌∙◌, subst}
use Rattle.line_parts.specs.Faults.{IsLineFault}
use Rattle.line_parts.specs.Tables.{IsLowTable}
use Rattle.line_parts.proofs.FaultLemmas.{handed_on}
use Rattle.query_lang.specs.Query.{AreLimits}
use Rattle.query_lang.specs.declared.form.QueryForm.TheVariants as asks
use Rattle.query_lang.specs.Forms.{row_of}
use Rattle.query_lang.specs.Values.{made_in, scope}
use Rattle.query_lang.proofs.QueryLemmas.{after_expected, after_refused, table_handed, table_made}
use Rattle.query_lang.proofs.query_line.search_after.Goals as goal

pub returns-in_err-classes-clause-err : goal.returns-in_err-classes-clause-err
returns-in_err-classes-clause-err c version relations =
    handed_on _ _ _ c.from_residual.ensures.1
    (after_refused (scope version c.args.alphabet.now c.args.is_monoid relations) c.args.two_sided c.args.classes.now c.args.count.now c.args.after.now c.args.token.now _ (sym c.in_err-classes.ensures.limits))

pub returns-then-not-is_word-clause-err : goal.returns-then-not-is_word-clause-err
returns-then-not-is_word-clause-err c version relations =
    subst (IsLineFault (made_in (scope version c.args.alphabet.now c.args.is_monoid relations) (row_of (asks.LowIndex c.args.two_sided)).ways (c.args.classes.now ∷ c.args.count.now ∷ c.args.after.now ∷ c.args.token.now ∷ []))) (sym c.refused.ensures)
    (after_expected (scope version c.args.alphabet.now c.args.is_monoid relations) c.args.two_sided c.args.classes.now c.args.count.now c.args.after.now c.args.token.now _ _
    (sym c.in_ok-classes.ensures.limits) (sym c.is_word.ensures ∙ c.if-not-is_word.true))

pub returns-in_err-table-clause-err : goal.returns-in_err-table-clause-err
returns-in_err-table-clause-err c version relations =
    table_handed (scope version c.args.alphabet.now c.args.is_monoid relations) c.args.two_sided c.args.classes.now c.args.count.now c.args.after.now c.args.token.now _ _ _ _ _ c.from_residual-in_err-table.ensures.1
    (sym c.in_ok-classes.ensures.limits) (sym c.is_word.ensures ∙ c.if-not-is_word.false) c.len.ensures.len c.in_err-table.ensures.err

pub returns-clause-ok : goal.returns-clause-ok
returns-clause-ok c version relations =
    table_made (scope version c.args.alphabet.now c.args.is_monoid relations) c.args.two_sided c.args.classes.now c.args.count.now c.args.after.now c.args.token.now _ _ _ _
    (sym c.in_ok-classes.ensures.limits) (sym c.is_word.ensures ∙ c.if-not-is_word.false) c.len.ensures.len c.in_ok-table.ensures.ok

pub returns-clause-over : goal.returns-clause-over
returns-clause-over c relations =
    subst (λ k. AreLimits c.in_ok-classes.classes c.in_ok-classes.count × IsLowTable c.args.is_monoid k c.in_ok-classes.classes c.in_ok-table.table) c.len.ensures.len (c.in_ok-classes.ensures.allowed, c.in_ok-table.ensures.low)
