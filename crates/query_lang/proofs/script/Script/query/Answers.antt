use Rattle.std.proofs.Common.{◌≡◌, true, false, Ok, IfErr, IfOk, sym, ap, ◌∙◌, subst}
use Rattle.problem.specs.Problem.{is_presented}
use Rattle.line_parts.specs.Faults.{IsLineFault}
use Rattle.line_parts.specs.Texts.{texts}
use Rattle.query_lang.specs.declared.form.Form.TheVariants.{Asks}
use Rattle.query_lang.specs.Asked.{ScriptOf}
use Rattle.query_lang.specs.Forms.{has_query, row_of}
use Rattle.query_lang.specs.Query.{IsQueryOf}
use Rattle.query_lang.specs.Values.{added_of, bars_query, made_in, scope, takes}
use Rattle.query_lang.proofs.AskedLemmas.{IsScopeOf, asked_barred, asked_made, asked_own, asked_unfit}
use Rattle.query_lang.proofs.script.Script.query.Goals as goal

-- the query is read over what the problem gives
over : (c : goal.After-query) → IsScopeOf c.self.inside.problem c.alphabet-alphabet.result.now c.has_empty_word-allow_empty.result c.relations_of-relations.result.now
over c = record { letters_are = c.alphabet-alphabet.ensures.letters; empty_is = c.has_empty_word-allow_empty.ensures; relations_are = c.relations_of-relations.ensures }

fits : (c : goal.After-query) → takes c.args.form (texts c.args.tokens.now) ≡ true
fits c = sym c.takes.ensures ∙ c.if-not-takes.false

free : (c : goal.After-query) → bars_query c.self.inside.problem c.args.form ≡ false
free c = sym c.is_barred.ensures ∙ c.if-is_barred.false

added : (c : goal.After-query)
    → made_in (scope c.args.version c.alphabet-alphabet.result.now c.has_empty_word-allow_empty.result c.relations_of-relations.result.now) (row_of c.args.form).ways (texts c.args.tokens.now) ≡ added_of c.args.version c.args.self.now.problem (Asks c.args.form) (texts c.args.tokens.now)
added c =
    asked_made c.args.version c.self.inside.problem _ _ _ c.args.form (texts c.args.tokens.now) (over c) (fits c) (free c)
    ∙ ap (λ (s : ScriptOf). added_of c.args.version s.problem (Asks c.args.form) (texts c.args.tokens.now)) c.self.view_is

pub returns-then-not-takes-clause-err : goal.returns-then-not-takes-clause-err
returns-then-not-takes-clause-err c =
    subst (IsLineFault (added_of c.args.version c.args.self.now.problem (Asks c.args.form) (texts c.args.tokens.now))) (sym c.refused.ensures)
    (asked_unfit c.args.version c.args.self.now.problem c.args.form (texts c.args.tokens.now) (sym c.takes.ensures ∙ c.if-not-takes.true))

pub returns-then-is_barred-clause-err : goal.returns-then-is_barred-clause-err
returns-then-is_barred-clause-err c =
    subst (IsLineFault (added_of c.args.version c.args.self.now.problem (Asks c.args.form) (texts c.args.tokens.now))) (sym c.refused-then-is_barred.ensures)
    (asked_barred c.args.version c.args.self.now.problem c.args.form (texts c.args.tokens.now) (sym c.takes.ensures ∙ c.if-not-takes.false)
    (ap (λ (s : ScriptOf). bars_query s.problem c.args.form) (sym c.self.view_is) ∙ sym c.is_barred.ensures ∙ c.if-is_barred.true))

pub query-requires : goal.query-requires
query-requires c = sym c.takes.ensures ∙ c.if-not-takes.false

pub returns-clause-ok : goal.returns-clause-ok
returns-clause-ok c = subst (λ added. IfOk c.query.result (λ query. added ≡ Ok query)) (added c) c.query.ensures.ok

pub returns-clause-own : goal.returns-clause-own
returns-clause-own c =
    subst (λ (s : ScriptOf). IfOk c.query.result (IsQueryOf s.problem)) c.self.view_is
    (asked_own c.args.version c.self.inside.problem _ _ _ c.args.form (texts c.args.tokens.now) c.query.result (over c) (ap (λ (s : ScriptOf). has_query (is_presented s.problem) c.args.form) c.self.view_is ∙ c.requires) (free c) c.query.ensures.ok c.query.ensures.over)

pub returns-clause-err : goal.returns-clause-err
returns-clause-err c = subst (λ added. IfErr c.query.result (IsLineFault added)) (added c) c.query.ensures.err
