use Rattle.std.proofs.Common.{◌≡◌, ◌<◌, ℕ, true, false, refl, sym, ◌∙◌, subst, arith, inl, inr}
use Rattle.std.proofs.lemmas.Bool.{cases_lt}
use Rattle.word_graph.specs.TwoSided.{word_of, AgreesBehind}
use Rattle.word_graph.proofs.ImageLaws.{agrees_two_sided, two_sided_agrees}
use Rattle.word_graph.proofs.graphs.WordGraph.is_two_sided.Goals as goal

pub returns-then-not-branch : goal.returns-then-not-branch
returns-then-not-branch c =
    let k : ℕ = c.letters-letters.result in
    let table = c.requires k c.letters-letters.ensures.graph in
    let walk = c.in_ok-walk.ensures k c.letters-letters.ensures.graph in (
      λ e. absurd (let bad : ⊥ = cc in bad),
      λ sides.
          let first : c.new.result ≡ c.loop-number.number = omega (arith, c.new.ensures, c.loop-number-test.true, c.letters-letters.ensures.few) in
          let less : c.new.result < k = omega (arith, first, c.loop-number-test.true) in
          let agrees = two_sided_agrees k c.args.self.now c.in_ok-walk.walk.steps.items c.in_ok-walk.walk.places.items walk table sides c.new.result less in
          let kept : c.in_ok-keeps_in_front.field-0 ≡ true = (c.in_ok-keeps_in_front.ensures k walk table).1 agrees in
          let e : false ≡ true = sym c.if-not-branch.true ∙ kept in
          absurd (let bad : ⊥ = cc in bad),
    )

pub loop-number-preserved : goal.loop-number-preserved
loop-number-preserved c = λ k walk table first l h.
    elim (cases_lt first c.loop-number.number) [
      | inl old ↦ c.loop-number.invariant k walk table first l old
      | inr new ↦
          let number : c.new.result ≡ c.loop-number.number = omega (arith, c.new.ensures, c.loop-number-test.true, c.letters-letters.ensures.few) in
          let e : first ≡ c.new.result = omega (arith, number, h, new) in
          subst (λ z. AgreesBehind k c.args.self.now (word_of c.in_ok-walk.walk.places.items walk.word) z) (sym e) ((c.in_ok-keeps_in_front.ensures k walk table).0 c.if-not-branch.false)
    ]

pub returns : goal.returns
returns c =
    let k : ℕ = c.letters-letters.result in
    let table = c.requires k c.letters-letters.ensures.graph in
    let walk = c.in_ok-walk.ensures k c.letters-letters.ensures.graph in (
      λ e.
          agrees_two_sided k c.args.self.now c.in_ok-walk.walk.steps.items c.in_ok-walk.walk.places.items walk table
          (λ first l. c.loop-number.invariant k walk table first l (omega (arith, l, c.loop-number-test.false))),
      λ sides. refl,
    )
