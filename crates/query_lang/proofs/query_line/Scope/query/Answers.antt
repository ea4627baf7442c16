use Rattle.std.proofs.Common.{◌≡◌, IfErr, IfOk, Ok, ap, subst, sym}
use Rattle.line_parts.specs.Faults.{IsLineFault}
use Rattle.line_parts.specs.Texts.{texts}
use Rattle.query_lang.specs.declared.script.Query.TheVariants as query
use Rattle.query_lang.specs.Forms.{row_of}
use Rattle.query_lang.specs.Values.{made_in, seen}
use Rattle.query_lang.proofs.AskedLemmas.{nothing_made, word_made, word_refused, words_made, words_refused}
use Rattle.query_lang.proofs.query_line.Scope.query.Goals as goal

pub returns-in-Classes-clause-ok : goal.returns-in-Classes-clause-ok
returns-in-Classes-clause-ok c =
    subst (λ form. IfOk c.page_of.result (λ query. made_in (seen c.args.self.now) (row_of form).ways (texts c.args.tokens.now) ≡ Ok query))
    (sym c.in-Classes.is) (c.page_of.ensures.ok c.args.self.now.relations.now)

pub returns-in-Classes-clause-over : goal.returns-in-Classes-clause-over
returns-in-Classes-clause-over c = c.page_of.ensures.over c.args.self.now.relations.now

pub returns-in-Classes-clause-err : goal.returns-in-Classes-clause-err
returns-in-Classes-clause-err c =
    subst (λ form. IfErr c.page_of.result (IsLineFault (made_in (seen c.args.self.now) (row_of form).ways (texts c.args.tokens.now))))
    (sym c.in-Classes.is) (c.page_of.ensures.err c.args.self.now.relations.now)

pub returns-in-Index-clause-ok : goal.returns-in-Index-clause-ok
returns-in-Index-clause-ok c =
    nothing_made (seen c.args.self.now) _ query.Index (texts c.args.tokens.now) (ap (λ f. (row_of f).ways) c.in-Index.is) c.requires

pub returns-in-Rules-clause-ok : goal.returns-in-Rules-clause-ok
returns-in-Rules-clause-ok c =
    nothing_made (seen c.args.self.now) _ query.RuleList (texts c.args.tokens.now) (ap (λ f. (row_of f).ways) c.in-Rules.is) c.requires

pub returns-in_ok-left-in-Equal-clause-ok : goal.returns-in_ok-left-in-Equal-clause-ok
returns-in_ok-left-in-Equal-clause-ok c =
    words_made (seen c.args.self.now) (row_of c.args.form).ways (λ v. query.Equal v.0 v.1.0) (texts c.args.tokens.now) _ (ap (λ f. (row_of f).ways) c.in-Equal.is) c.in_ok-left-in-Equal.ensures.ok

pub returns-in_err-left-in-Equal-clause-err : goal.returns-in_err-left-in-Equal-clause-err
returns-in_err-left-in-Equal-clause-err c =
    words_refused (seen c.args.self.now) (row_of c.args.form).ways (λ v. query.Equal v.0 v.1.0) (texts c.args.tokens.now) _ _
    c.from_residual.ensures.1 (ap (λ f. (row_of f).ways) c.in-Equal.is) c.in_err-left-in-Equal.ensures.err

pub returns-in_ok-word-in-Normal-clause-ok : goal.returns-in_ok-word-in-Normal-clause-ok
returns-in_ok-word-in-Normal-clause-ok c =
    word_made (seen c.args.self.now) (row_of c.args.form).ways (λ v. query.Normal v.0) (texts c.args.tokens.now) _ (ap (λ f. (row_of f).ways) c.in-Normal.is) c.in_ok-word-in-Normal.ensures.ok

pub returns-in_err-word-in-Normal-clause-err : goal.returns-in_err-word-in-Normal-clause-err
returns-in_err-word-in-Normal-clause-err c =
    word_refused (seen c.args.self.now) (row_of c.args.form).ways (λ v. query.Normal v.0) (texts c.args.tokens.now) _ _
    c.from_residual-in_err-word-in-Normal.ensures.1 (ap (λ f. (row_of f).ways) c.in-Normal.is) c.in_err-word-in-Normal.ensures.err
