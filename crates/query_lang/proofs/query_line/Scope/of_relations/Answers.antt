use Rattle.std.proofs.Common.{◌≡◌, IfErr, IfOk, Ok, ap, subst, sym}
use Rattle.line_parts.specs.Faults.{IsLineFault}
use Rattle.line_parts.specs.Tables.{IsCongruenceTable}
use Rattle.line_parts.specs.Texts.{texts}
use Rattle.query_lang.specs.declared.script.Query.TheVariants as query
use Rattle.query_lang.specs.Forms.{row_of}
use Rattle.query_lang.specs.Values.{made_in, seen}
use Rattle.query_lang.proofs.AskedLemmas.{tables_made, words_made, words_refused}
use Rattle.query_lang.proofs.QueryLemmas.{tables_handed}
use Rattle.query_lang.proofs.query_line.Scope.of_relations.Goals as goal

pub returns-in-LowIndex-clause-ok : goal.returns-in-LowIndex-clause-ok
returns-in-LowIndex-clause-ok c =
    subst (λ form. IfOk c.search_of.result (λ query. made_in (seen c.args.self.now) (row_of form).ways (texts c.args.tokens.now) ≡ Ok query))
    (sym c.in-LowIndex.is) (c.search_of.ensures.ok c.args.self.now.version c.args.self.now.relations.now)

pub returns-in-LowIndex-clause-over : goal.returns-in-LowIndex-clause-over
returns-in-LowIndex-clause-over c = c.search_of.ensures.over c.args.self.now.relations.now

pub returns-in-LowIndex-clause-err : goal.returns-in-LowIndex-clause-err
returns-in-LowIndex-clause-err c =
    subst (λ form. IfErr c.search_of.result (IsLineFault (made_in (seen c.args.self.now) (row_of form).ways (texts c.args.tokens.now))))
    (sym c.in-LowIndex.is) (c.search_of.ensures.err c.args.self.now.version c.args.self.now.relations.now)

pub returns-in_err-one-in-Meet-clause-err : goal.returns-in_err-one-in-Meet-clause-err
returns-in_err-one-in-Meet-clause-err c =
    tables_handed (seen c.args.self.now) (row_of c.args.form).ways (λ v. query.Meet v.0 v.1.0) (texts c.args.tokens.now) _ _ _
    c.from_residual.ensures.1 (ap (λ f. (row_of f).ways) c.in-Meet.is) c.len-letters.ensures.len c.in_err-one-in-Meet.ensures.err

pub returns-in_err-first-in-Join-clause-err : goal.returns-in_err-first-in-Join-clause-err
returns-in_err-first-in-Join-clause-err c =
    tables_handed (seen c.args.self.now) (row_of c.args.form).ways (λ v. query.Join v.0 v.1.0) (texts c.args.tokens.now) _ _ _
    c.from_residual-in_err-first-in-Join.ensures.1 (ap (λ f. (row_of f).ways) c.in-Join.is) c.len-letters.ensures.len c.in_err-first-in-Join.ensures.err

pub returns-in_ok-one-in-Meet-clause-ok : goal.returns-in_ok-one-in-Meet-clause-ok
returns-in_ok-one-in-Meet-clause-ok c =
    tables_made (seen c.args.self.now) (row_of c.args.form).ways (λ v. query.Meet v.0 v.1.0) (texts c.args.tokens.now) _ _ (ap (λ f. (row_of f).ways) c.in-Meet.is) c.len-letters.ensures.len c.in_ok-one-in-Meet.ensures.ok

pub returns-in_ok-one-in-Meet-clause-over : goal.returns-in_ok-one-in-Meet-clause-over
returns-in_ok-one-in-Meet-clause-over c =
    let t = c.in_ok-one-in-Meet in
    subst (λ k. IsCongruenceTable c.args.self.now.allow_empty k c.args.self.now.relations.now t.one × IsCongruenceTable c.args.self.now.allow_empty k c.args.self.now.relations.now t.other) c.len-letters.ensures.len (t.ensures.left, t.ensures.right)

pub returns-in_ok-first-in-Join-clause-ok : goal.returns-in_ok-first-in-Join-clause-ok
returns-in_ok-first-in-Join-clause-ok c =
    tables_made (seen c.args.self.now) (row_of c.args.form).ways (λ v. query.Join v.0 v.1.0) (texts c.args.tokens.now) _ _ (ap (λ f. (row_of f).ways) c.in-Join.is) c.len-letters.ensures.len c.in_ok-first-in-Join.ensures.ok

pub returns-in_ok-first-in-Join-clause-over : goal.returns-in_ok-first-in-Join-clause-over
returns-in_ok-first-in-Join-clause-over c =
    let t = c.in_ok-first-in-Join in
    subst (λ k. IsCongruenceTable c.args.self.now.allow_empty k c.args.self.now.relations.now t.first × IsCongruenceTable c.args.self.now.allow_empty k c.args.self.now.relations.now t.second) c.len-letters.ensures.len (t.ensures.left, t.ensures.right)

pub returns-in_ok-from-in-Chain-clause-ok : goal.returns-in_ok-from-in-Chain-clause-ok
returns-in_ok-from-in-Chain-clause-ok c =
    words_made (seen c.args.self.now) (row_of c.args.form).ways (λ v. query.Chain v.0 v.1.0) (texts c.args.tokens.now) _ (ap (λ f. (row_of f).ways) c.in-Chain.is) c.in_ok-from-in-Chain.ensures.ok

pub returns-in_err-from-in-Chain-clause-err : goal.returns-in_err-from-in-Chain-clause-err
returns-in_err-from-in-Chain-clause-err c =
    words_refused (seen c.args.self.now) (row_of c.args.form).ways (λ v. query.Chain v.0 v.1.0) (texts c.args.tokens.now) _ _
    c.from_residual-in_err-from-in-Chain.ensures.1 (ap (λ f. (row_of f).ways) c.in-Chain.is) c.in_err-from-in-Chain.ensures.err
