use Rattle.std.proofs.Common.{◌-◌, length, sym, ◌∙◌, arith}
use Rattle.std.proofs.lemmas.Bool.{eq-eqb, eqb-true}
use Rattle.rewriting.proofs.LookupLaws.{last_differs, last_tested}
use Rattle.rewriting.proofs.lookups.stands_last.Goals as goal

pub returns-then-eq : goal.returns-then-eq
returns-then-eq c =
    last_tested c.args.letters.now c.args.letter c.args.word.now (length c.args.word.now - 1) c.index-word-last.result c.ends_with.result (omega (arith, c.requires)) c.index-word-last.is
    (eqb-true c.index-word-last.result c.args.letter (sym c.eq.ensures ∙ c.if-eq.true)) c.ends_with.ensures.value

pub returns-else-eq : goal.returns-else-eq
returns-else-eq c = (
  λ t. let bad : ⊥ = cc in absurd bad,
  λ stands. absurd (last_differs c.args.letters.now c.args.letter c.args.word.now (length c.args.word.now - 1) c.index-word-last.result (omega (arith, c.requires)) c.index-word-last.is
      (λ e. let t = eq-eqb c.index-word-last.result c.args.letter e in let f = c.eq.ensures in let g = c.if-eq.false in let bad : ⊥ = cc in bad) stands),
)
