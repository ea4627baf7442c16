use Rattle.std.proofs.Common.{◌∙◌, ap, eqb, arith}
use Rattle.std.specs.List.{starts_with}
use Rattle.std.proofs.lemmas.Bool.{eq-eqb}
use Rattle.std.proofs.lemmas.List.{take_rest}
use Rattle.theory.specs.Word.{Word}
use Rattle.rewriting.proofs.Standing.{starts_elsewhere}
use Rattle.rewriting.proofs.factors.stands_at.Goals as goal

pub returns-then-eq : goal.returns-then-eq
returns-then-eq c = c.starts_with.ensures.value ∙ ap (λ (u : Word). starts_with eqb u c.args.word.now) (take_rest c.args.letters.now c.args.place)

pub returns-else-eq : goal.returns-else-eq
returns-else-eq c =
    c.if-eq.false
    ∙ starts_elsewhere c.args.letters.now c.args.word.now c.args.place c.index-letters-place.result c.index-word-0.result c.requires.some
    (omega (arith, c.requires.some, c.requires.within)) c.index-letters-place.is c.index-word-0.is
    (λ e. let t = eq-eqb c.index-letters-place.result c.index-word-0.result e in let f = c.eq.ensures in let g = c.if-eq.false in let bad : ⊥ = cc in bad)
