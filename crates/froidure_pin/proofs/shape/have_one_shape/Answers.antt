use Rattle.std.proofs.Common.{◌≡◌, ℕ, ◌<◌, List, length, get_or, sym, ap, ◌∙◌, arith, below_more, refl, true≢false}
use Rattle.froidure_pin.proofs.OneShape.{all_as_first, as_first, one_as_first}
use Rattle.froidure_pin.proofs.shape.have_one_shape.Goals as goal

pub returns-then-not-same_shape : goal.returns-then-not-same_shape
returns-then-not-same_shape g c =
    let xs : List g.row.E.Denot = c.args.generators.now.items in
    let i : ℕ = c.loop-generator.generator-index in
    let x : g.row.E.Denot = c.index.result.now in
    let y : g.row.E.Denot = c.generator-item.result in
    let value = c.deref-generator-items.ensures.value in
    let within : i < length xs = omega (arith, ap length value, c.loop-generator-test.true) in
    let first : get_or xs 0 x ≡ x = sym c.index.ensures in
    let at : get_or xs i y ≡ y = sym (c.generator-item.is ∙ ap (λ ys. get_or ys i y) value) in
    (λ e. absurd (true≢false (sym e)), λ shaped. c.if-not-same_shape.ensures.1 (one_as_first g.E.Values.shape xs i x y within first at shaped))

pub loop-generator-preserved : goal.loop-generator-preserved
loop-generator-preserved g c =
    let xs : List g.row.E.Denot = c.args.generators.now.items in
    let i : ℕ = c.loop-generator.generator-index in
    let x : g.row.E.Denot = c.index.result.now in
    let y : g.row.E.Denot = c.generator-item.result in
    let value = c.deref-generator-items.ensures.value in
    let within : i < length xs = omega (arith, ap length value, c.loop-generator-test.true) in
    let first : get_or xs 0 x ≡ x = sym c.index.ensures in
    let at : get_or xs i y ≡ y = sym (c.generator-item.is ∙ ap (λ ys. get_or ys i y) value) in
    λ k unused. below_more (λ j. g.E.Values.shape (get_or xs 0 unused) ≡ g.E.Values.shape (get_or xs j unused)) i (λ j. c.loop-generator.invariant j unused) (as_first g.E.Values.shape xs i x y unused within first at (c.if-not-same_shape.ensures.0 refl)) k

pub returns : goal.returns
returns g c =
    let xs : List g.row.E.Denot = c.args.generators.now.items in
    let full : c.loop-generator.generator-index ≡ length xs = omega (arith, ap length c.deref-generator-items.ensures.value, c.loop-generator-test.false, c.loop-generator.auto.generator-index-end) in
    (λ _. all_as_first g.E.Values.shape xs (λ k unused h. c.loop-generator.invariant k unused (omega arith)), λ _. refl)
