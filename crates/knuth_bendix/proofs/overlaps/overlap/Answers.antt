use Rattle.std.proofs.Common.{◌-◌, ◌∙◌, ap, drop}
use Rattle.std.proofs.lemmas.Bool.{eq-eqb}
use Rattle.knuth_bendix.proofs.OverlapSteps.{overlap_begins, overlap_tested}
use Rattle.knuth_bendix.proofs.overlaps.overlap.Goals as goal

pub returns-then-eq : goal.returns-then-eq
returns-then-eq c =
    overlap_tested c.args.first.now c.args.second.now c.letters.result.now c.letters-then-eq.result.now c.args.shared c.len.result c.eq-then-eq.result
    c.letters.ensures c.letters-then-eq.ensures c.len.ensures c.eq-then-eq.ensures

pub returns-else-eq : goal.returns-else-eq
returns-else-eq c = (
  λ t. let f = c.if-eq.false in let bad : ⊥ = cc in absurd bad,
  λ o.
      let same = overlap_begins (c.len.result - c.args.shared) c.args.first.now c.args.second.now c.args.shared c.letter.result c.letter-2.result c.requires.some
      (ap (λ n. drop (n - c.args.shared) c.args.first.now) c.len.ensures ∙ o) c.letter.ensures c.letter-2.ensures in
      let t = eq-eqb c.letter.result c.letter-2.result same in
      let e = c.eq.ensures in
      let f = c.if-eq.false in
      let bad : ⊥ = cc in
      absurd bad,
)
