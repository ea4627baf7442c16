use Rattle.std.proofs.Common.{◌≡◌, Ok, IfErr, IfOk, sym, ◌∙◌, subst}
use Rattle.line_parts.specs.Faults.{IsLineFault}
use Rattle.line_parts.specs.Texts.{texts}
use Rattle.line_parts.specs.Versions.{is_wide}
use Rattle.query_lang.specs.Reading.{said_by}
use Rattle.query_lang.proofs.HeaderLemmas.{kind_named, monoid_named, semigroup_named}
use Rattle.query_lang.proofs.reader.named_header.Goals as goal

pub returns-then-is_word-clause-ok : goal.returns-then-is_word-clause-ok
returns-then-is_word-clause-ok c =
    subst (λ named. IfOk c.presented_header.result (λ next. said_by c.args.version named (texts c.args.tokens.now) ≡ Ok next))
    (sym (monoid_named (is_wide c.args.version) c.args.name.now (sym c.is_word.ensures ∙ c.if-is_word.true))) c.presented_header.ensures.ok

pub returns-then-is_word-clause-err : goal.returns-then-is_word-clause-err
returns-then-is_word-clause-err c =
    subst (λ named. IfErr c.presented_header.result (IsLineFault (said_by c.args.version named (texts c.args.tokens.now))))
    (sym (monoid_named (is_wide c.args.version) c.args.name.now (sym c.is_word.ensures ∙ c.if-is_word.true))) c.presented_header.ensures.err

pub returns-then-is_word-2-clause-ok : goal.returns-then-is_word-2-clause-ok
returns-then-is_word-2-clause-ok c =
    subst (λ named. IfOk c.presented_header-then-is_word-2.result (λ next. said_by c.args.version named (texts c.args.tokens.now) ≡ Ok next))
    (sym (semigroup_named (is_wide c.args.version) c.args.name.now (sym c.is_word.ensures ∙ c.if-is_word.false) (sym c.is_word-else-is_word.ensures ∙ c.if-is_word-2.true))) c.presented_header-then-is_word-2.ensures.ok

pub returns-then-is_word-2-clause-err : goal.returns-then-is_word-2-clause-err
returns-then-is_word-2-clause-err c =
    subst (λ named. IfErr c.presented_header-then-is_word-2.result (IsLineFault (said_by c.args.version named (texts c.args.tokens.now))))
    (sym (semigroup_named (is_wide c.args.version) c.args.name.now (sym c.is_word.ensures ∙ c.if-is_word.false) (sym c.is_word-else-is_word.ensures ∙ c.if-is_word-2.true))) c.presented_header-then-is_word-2.ensures.err

pub returns-else-is_word-2-clause-ok : goal.returns-else-is_word-2-clause-ok
returns-else-is_word-2-clause-ok c =
    subst (λ named. IfOk c.generated_header.result (λ next. said_by c.args.version named (texts c.args.tokens.now) ≡ Ok next))
    (sym (kind_named (is_wide c.args.version) c.args.name.now (sym c.is_word.ensures ∙ c.if-is_word.false) (sym c.is_word-else-is_word.ensures ∙ c.if-is_word-2.false))) c.generated_header.ensures.ok

pub returns-else-is_word-2-clause-err : goal.returns-else-is_word-2-clause-err
returns-else-is_word-2-clause-err c =
    subst (λ named. IfErr c.generated_header.result (IsLineFault (said_by c.args.version named (texts c.args.tokens.now))))
    (sym (kind_named (is_wide c.args.version) c.args.name.now (sym c.is_word.ensures ∙ c.if-is_word.false) (sym c.is_word-else-is_word.ensures ∙ c.if-is_word-2.false))) c.generated_header.ensures.err
