use Rattle.std.proofs.Common.{ap, sym}
use Rattle.line_parts.specs.Texts.{texts}
use Rattle.query_lang.specs.declared.script.Query.TheVariants as query
use Rattle.query_lang.specs.Forms.{row_of}
use Rattle.query_lang.specs.Values.{seen}
use Rattle.query_lang.proofs.AskedLemmas.{nothing_made, relation_made, relation_refused, word_made, word_refused}
use Rattle.query_lang.proofs.query_line.Scope.of_generators.Goals as goal

pub returns-in-Cayley-clause-ok : goal.returns-in-Cayley-clause-ok
returns-in-Cayley-clause-ok c =
    nothing_made (seen c.args.self.now) _ query.Cayley (texts c.args.tokens.now) (ap (λ f. (row_of f).ways) c.in-Cayley.is) c.requires.taken

pub returns-in-Idempotents-clause-ok : goal.returns-in-Idempotents-clause-ok
returns-in-Idempotents-clause-ok c =
    nothing_made (seen c.args.self.now) _ query.Idempotents (texts c.args.tokens.now) (ap (λ f. (row_of f).ways) c.in-Idempotents.is) c.requires.taken

pub returns-in_ok-value-in-Element-clause-ok : goal.returns-in_ok-value-in-Element-clause-ok
returns-in_ok-value-in-Element-clause-ok c =
    word_made (seen c.args.self.now) (row_of c.args.form).ways (λ v. query.ElementOf v.0) (texts c.args.tokens.now) _ (ap (λ f. (row_of f).ways) c.in-Element.is) c.in_ok-value-in-Element.ensures.ok

pub returns-in_err-value-in-Element-clause-err : goal.returns-in_err-value-in-Element-clause-err
returns-in_err-value-in-Element-clause-err c =
    word_refused (seen c.args.self.now) (row_of c.args.form).ways (λ v. query.ElementOf v.0) (texts c.args.tokens.now) _ _
    c.from_residual.ensures.1 (ap (λ f. (row_of f).ways) c.in-Element.is) c.in_err-value-in-Element.ensures.err

pub returns-in_ok-one_relation-in-Green-clause-ok : goal.returns-in_ok-one_relation-in-Green-clause-ok
returns-in_ok-one_relation-in-Green-clause-ok c =
    relation_made (seen c.args.self.now) (row_of c.args.form).ways (λ v. query.Green v.0) (texts c.args.tokens.now) _ (ap (λ f. (row_of f).ways) c.in-Green.is) (sym c.in_ok-one_relation-in-Green.ensures)

pub returns-in_err-one_relation-in-Green-clause-err : goal.returns-in_err-one_relation-in-Green-clause-err
returns-in_err-one_relation-in-Green-clause-err c =
    relation_refused (seen c.args.self.now) (row_of c.args.form).ways (λ v. query.Green v.0) (texts c.args.tokens.now) _ _
    c.from_residual-in_err-one_relation-in-Green.ensures.1 (ap (λ f. (row_of f).ways) c.in-Green.is) (sym c.in_err-one_relation-in-Green.ensures)
