use Rattle.std.proofs.Common.{◌≡◌, suc, true, false, ◌+◌, ◌∙◌, sym, ap, subst, arith}
use Rattle.theory.specs.Congruence.{Presentation, is_two_sided}
use Rattle.rewriting.specs.Rules.{AreOver}
use Rattle.congruence_classes.proofs.RewrittenRules.{letters_marked, letters_plain, sides_over}
use Rattle.congruence_classes.proofs.reducers.Reducer.new.Goals as goal

pub build-requires-clause-over : goal.build-requires-clause-over
build-requires-clause-over c =
    let letters : c.letters-letters.result ≡ c.args.congruence.now.congruence.presentation.letters =
    c.letters-letters.ensures.letters ∙ ap (λ (p : Presentation). p.letters) c.presentation.ensures.presentation in
    let test : is_two_sided c.args.congruence.now.congruence ≡ true = sym c.is_two_sided.ensures ∙ c.if-is_two_sided.true in
    subst (λ k. AreOver k c.args.rules.now) (letters_plain c.args.congruence.now.congruence test ∙ sym letters)
    (sides_over c.args.congruence.now.congruence c.args.rules.now c.requires.rules)

pub build-requires-2-clause-over : goal.build-requires-2-clause-over
build-requires-2-clause-over c =
    let letters : c.letters-letters.result ≡ c.args.congruence.now.congruence.presentation.letters =
    c.letters-letters.ensures.letters ∙ ap (λ (p : Presentation). p.letters) c.presentation.ensures.presentation in
    let test : is_two_sided c.args.congruence.now.congruence ≡ false = sym c.is_two_sided.ensures ∙ c.if-is_two_sided.false in
    let one_more : suc c.args.congruence.now.congruence.presentation.letters ≡ c.letters-letters.result + 1 = omega (arith, letters) in
    subst (λ k. AreOver k c.args.rules.now) (letters_marked c.args.congruence.now.congruence test ∙ one_more)
    (sides_over c.args.congruence.now.congruence c.args.rules.now c.requires.rules)
