use Rattle.std.proofs.Common.{◌≡◌, IfErr, IfOk, Ok, subst, sym}
use Rattle.line_parts.specs.Faults.{IsLineFault}
use Rattle.line_parts.specs.Texts.{texts}
use Rattle.query_lang.specs.Reading.{added_to}
use Rattle.query_lang.proofs.reader.Reader.with_form.Goals as goal

pub returns-in-Relation-clause-ok : goal.returns-in-Relation-clause-ok
returns-in-Relation-clause-ok c = subst (λ form. IfOk c.add_relation.result (λ next. added_to c.args.self form (texts c.args.tokens.now) ≡ Ok next)) (sym c.in-Relation.is) c.add_relation.ensures.ok

pub returns-in-Relation-clause-err : goal.returns-in-Relation-clause-err
returns-in-Relation-clause-err c = subst (λ form. IfErr c.add_relation.result (IsLineFault (added_to c.args.self form (texts c.args.tokens.now)))) (sym c.in-Relation.is) c.add_relation.ensures.err

pub returns-in-OfRole-clause-ok : goal.returns-in-OfRole-clause-ok
returns-in-OfRole-clause-ok c = subst (λ form. IfOk c.add_role.result (λ next. added_to c.args.self form (texts c.args.tokens.now) ≡ Ok next)) (sym c.in-OfRole.is) c.add_role.ensures.ok

pub returns-in-OfRole-clause-err : goal.returns-in-OfRole-clause-err
returns-in-OfRole-clause-err c = subst (λ form. IfErr c.add_role.result (IsLineFault (added_to c.args.self form (texts c.args.tokens.now)))) (sym c.in-OfRole.is) c.add_role.ensures.err

pub returns-in-Pair-clause-ok : goal.returns-in-Pair-clause-ok
returns-in-Pair-clause-ok c = subst (λ form. IfOk c.add_pair.result (λ next. added_to c.args.self form (texts c.args.tokens.now) ≡ Ok next)) (sym c.in-Pair.is) c.add_pair.ensures.ok

pub returns-in-Pair-clause-err : goal.returns-in-Pair-clause-err
returns-in-Pair-clause-err c = subst (λ form. IfErr c.add_pair.result (IsLineFault (added_to c.args.self form (texts c.args.tokens.now)))) (sym c.in-Pair.is) c.add_pair.ensures.err

pub returns-in-Asks-clause-ok : goal.returns-in-Asks-clause-ok
returns-in-Asks-clause-ok c = subst (λ form. IfOk c.ask.result (λ next. added_to c.args.self form (texts c.args.tokens.now) ≡ Ok next)) (sym c.in-Asks.is) c.ask.ensures.ok

pub returns-in-Asks-clause-err : goal.returns-in-Asks-clause-err
returns-in-Asks-clause-err c = subst (λ form. IfErr c.ask.result (IsLineFault (added_to c.args.self form (texts c.args.tokens.now)))) (sym c.in-Asks.is) c.ask.ensures.err
