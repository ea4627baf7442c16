use Rattle.std.proofs.Common.{◌≤◌, IfErr, IfOk, arith, length, rules, sym, ◌∙◌, subst}
use Rattle.std.proofs.lemmas.Result.{IfErr-weaker}
use Rattle.line_parts.specs.Texts.{texts}
use Rattle.query_lang.specs.Faults.{IsFaultFor}
use Rattle.query_lang.specs.Grammar.{LineReads}
use Rattle.query_lang.specs.LineCauses.{first_of, line_causes}
use Rattle.query_lang.proofs.ReaderLemmas.{generator_fault, generator_texts, named_texts, nothing_there}
use Rattle.query_lang.proofs.reader.Reader.add_line.Goals as goal

pub returns-in-len2-up-clause-ok : goal.returns-in-len2-up-clause-ok
returns-in-len2-up-clause-ok c =
    subst (λ tokens. IfOk c.add_generator.result (LineReads c.args.self tokens)) (generator_texts c.args.line.now _ _ _ c.in-len2-up.len_at_least (sym c.is_sign.ensures ∙ c.if-is_sign.true)) c.add_generator.ensures.ok

pub returns-in-len2-up-clause-err : goal.returns-in-len2-up-clause-err
returns-in-len2-up-clause-err c =
    IfErr-weaker c.add_generator.result _ _ (λ fault h. generator_fault c.args.self c.args.line.now _ _ fault c.in-len2-up.len_at_least (sym c.is_sign.ensures ∙ c.if-is_sign.true) h) c.add_generator.ensures.err

pub returns-in-len1-up-clause-ok : goal.returns-in-len1-up-clause-ok
returns-in-len1-up-clause-ok c =
    let some : 1 ≤ length c.args.line.now = search rules in
    subst (λ tokens. IfOk c.add_named.result (LineReads c.args.self tokens)) (named_texts c.args.line.now _ some) c.add_named.ensures.ok

pub returns-in-len1-up-clause-err : goal.returns-in-len1-up-clause-err
returns-in-len1-up-clause-err c =
    let some : 1 ≤ length c.args.line.now = search rules in
    subst (λ tokens. IfErr c.add_named.result (IsFaultFor (first_of (line_causes c.args.self tokens)))) (named_texts c.args.line.now _ some) c.add_named.ensures.err

pub returns-in-empty-clause-err : goal.returns-in-empty-clause-err
returns-in-empty-clause-err c =
    subst (IsFaultFor (first_of (line_causes c.args.self (texts c.args.line.now)))) (sym c.refused_after.ensures) (nothing_there c.args.self c.args.line.now (omega arith))
