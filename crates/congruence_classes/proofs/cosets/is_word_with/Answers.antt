use Rattle.std.proofs.Common.{sym, ◌∙◌}
use Rattle.std.proofs.lemmas.Bool.{eqb-true}
use Rattle.congruence_classes.proofs.ListedRuleLaws.{word_with}
use Rattle.congruence_classes.proofs.cosets.is_word_with.Goals as goal

pub returns-then-eq : goal.returns-then-eq
returns-then-eq c =
    word_with c.args.word.now c.args.front.now c.in-Some.rest.now c.letters-then-eq.result.now c.in-Some.last.now c.args.letter c.eq-then-eq.result (sym c.letters.ensures ∙ c.in-Some.ensures.cases.0) (eqb-true c.in-Some.last.now c.args.letter (sym c.eq.ensures ∙ c.if-eq.true)) c.letters-then-eq.ensures c.eq-then-eq.ensures
