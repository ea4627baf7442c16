use Rattle.std.proofs.Common.{◌∙◌, sym, ap, subst}
use Rattle.word_powers.specs.Powers.{IsOutcome}
use Rattle.line_parts.specs.Faults.{IsLineFault, fault_of_powers, fault_of_word}
use Rattle.line_parts.specs.LineWords.{element_of, with_cause, with_power_cause}
use Rattle.line_parts.proofs.FaultLemmas.{handed_on, word_refused}
use Rattle.line_parts.proofs.PowerWordLaws.{outcome_told, powers_read, powers_refused}
use Rattle.line_parts.proofs.line_words.element_of.Goals as goal

pub returns-in_err-read_powers-in-Two-clause-err :
    goal.returns-in_err-read_powers-in-Two-clause-err
returns-in_err-read_powers-in-Two-clause-err c =
    let letters = c.args.alphabet.now in
    let allow = c.args.allow_empty in
    let text = c.args.token.now in
    let fault = c.in_err-read_powers-in-Two.field-0.0 in
    let e = c.read_powers.ensures in
    let told = outcome_told letters allow text c.read_powers.result e.ok e.readable e.empty_word e.not_in_alphabet e.bad_power e.too_long e.no_memory in
    let refused = powers_refused letters c.len-letters.ensures.alphabet allow text fault (subst (IsOutcome letters allow text) c.in_err-read_powers-in-Two.was told) in
    handed_on _ _ _ c.from_residual-in_err-read_powers-in-Two.ensures.1
    (subst (λ version. IsLineFault (element_of version letters allow text) (fault_of_powers fault)) (sym c.in-Two.is) refused)

pub returns-in_ok-read_powers-in-Two-clause-ok : goal.returns-in_ok-read_powers-in-Two-clause-ok
returns-in_ok-read_powers-in-Two-clause-ok c =
    let letters = c.args.alphabet.now in
    let allow = c.args.allow_empty in
    let text = c.args.token.now in
    let word = c.in_ok-read_powers-in-Two.field-0 in
    ap (λ version. element_of version letters allow text) c.in-Two.is
    ∙ ap with_power_cause (powers_read letters c.len-letters.ensures.alphabet allow text word c.in_ok-read_powers-in-Two.ensures.ok c.in_ok-read_powers-in-Two.ensures.readable)

pub returns-in_err-read_word-in-One-clause-err : goal.returns-in_err-read_word-in-One-clause-err
returns-in_err-read_word-in-One-clause-err c =
    let letters = c.args.alphabet.now in
    let allow = c.args.allow_empty in
    let text = c.args.token.now in
    let fault = c.in_err-read_word-in-One.field-0.0 in
    handed_on _ _ _ c.from_residual.ensures.1
    (subst (λ version. IsLineFault (element_of version letters allow text) (fault_of_word fault)) (sym c.in-One.is) (word_refused letters allow text fault c.in_err-read_word-in-One.ensures.err))

pub returns-in_ok-read_word-in-One-clause-ok : goal.returns-in_ok-read_word-in-One-clause-ok
returns-in_ok-read_word-in-One-clause-ok c =
    ap (λ version. element_of version c.args.alphabet.now c.args.allow_empty c.args.token.now) c.in-One.is ∙ ap with_cause c.in_ok-read_word-in-One.ensures.ok
