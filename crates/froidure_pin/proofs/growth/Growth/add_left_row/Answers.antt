use Rattle.std.proofs.Common.{◌<◌, [], ◌∷◌, length, sym, ap, subst, arith, length-append}
use Rattle.froidure_pin.specs.Found.{generated, words_of}
use Rattle.froidure_pin.specs.Growing.{AreLeftNumbers}
use Rattle.froidure_pin.specs.declared.growth.Growth.{Growth}
use Rattle.froidure_pin.proofs.OneShape.{some_value}
use Rattle.froidure_pin.proofs.Search.{setting_of}
use Rattle.froidure_pin.proofs.OneMore.{grown_left}
use Rattle.froidure_pin.proofs.Lefts.{in_factors, last_read, lefts_read, prefix_read, product_read}
use Rattle.froidure_pin.proofs.growth.Growth.add_left_row.Goals as goal

pub index-factor-requires : goal.index-factor-requires
index-factor-requires g c =
    let unused = some_value c.args.generators.now.items c.requires.some in
    let letter : c.loop-letter.letter < length c.args.generators.now.items = omega (arith, c.loop-letter-test.true, c.len-letters.ensures) in
    let within = in_factors (setting_of g.met.E.Values.products g.met.E.Element.one_shape c.requires.shape unused) (c.loop-letter.invariant.grown.1 unused) c.args.number c.loop-letter.letter c.loop-letter.invariant.within letter c.loop-letter.invariant.rows (c.loop-letter.invariant.lefts unused) in
    omega (arith, within, c.loop-letter.self.factors.ok.0)

pub left_number-product-requires-clause-letter : goal.left_number-product-requires-clause-letter
left_number-product-requires-clause-letter g c =
    let unused = some_value c.args.generators.now.items c.requires.some in
    let letter : c.loop-letter.letter < length c.args.generators.now.items = omega (arith, c.loop-letter-test.true, c.len-letters.ensures) in
    last_read (setting_of g.met.E.Values.products g.met.E.Element.one_shape c.requires.shape unused) (c.loop-letter.invariant.grown.1 unused) c.args.number c.loop-letter.letter c.loop-letter.invariant.within letter c.loop-letter.invariant.rows (c.loop-letter.invariant.lefts unused) c.len-letters.result (omega (arith, c.len-letters.ensures)) c.index-factor.ensures

pub left_number-product-requires-clause-parent : goal.left_number-product-requires-clause-parent
left_number-product-requires-clause-parent g c =
    let unused = some_value c.args.generators.now.items c.requires.some in
    let letter : c.loop-letter.letter < length c.args.generators.now.items = omega (arith, c.loop-letter-test.true, c.len-letters.ensures) in
    prefix_read (setting_of g.met.E.Values.products g.met.E.Element.one_shape c.requires.shape unused) (c.loop-letter.invariant.grown.1 unused) c.args.number c.loop-letter.letter c.loop-letter.invariant.within letter c.loop-letter.invariant.rows (c.loop-letter.invariant.lefts unused) c.len-letters.result (omega (arith, c.len-letters.ensures)) c.index-factor.ensures

pub left_number-product-requires-clause-product : goal.left_number-product-requires-clause-product
left_number-product-requires-clause-product g c =
    let unused = some_value c.args.generators.now.items c.requires.some in
    let letter : c.loop-letter.letter < length c.args.generators.now.items = omega (arith, c.loop-letter-test.true, c.len-letters.ensures) in
    product_read (setting_of g.met.E.Values.products g.met.E.Element.one_shape c.requires.shape unused) (c.loop-letter.invariant.grown.1 unused) c.args.number c.loop-letter.letter c.loop-letter.invariant.within letter c.loop-letter.invariant.rows (c.loop-letter.invariant.lefts unused) c.len-letters.result (omega (arith, c.len-letters.ensures)) c.index-factor.ensures c.loop-letter.invariant.reach

pub loop-letter-preserved : goal.loop-letter-preserved
loop-letter-preserved g c =
    let letter : c.loop-letter.letter < length c.args.generators.now.items = omega (arith, c.loop-letter-test.true, c.len-letters.ensures) in
    record {
      within = c.loop-letter.invariant.within;
      grown = (c.loop-letter.invariant.grown.0, λ unused. grown_left c.push.new.self.items (c.loop-letter.invariant.grown.1 unused));
      reach = c.loop-letter.invariant.reach;
      kept = ap (λ (grown : Growth g.row.E.Denot). record grown { left = c.push.new.self }) c.loop-letter.invariant.kept;
      rows = omega (arith, c.loop-letter.invariant.rows, ap length c.in_ok-push.ensures.items, length-append c.loop-letter.self.left.items (c.left_number-product.result ∷ []));
      lefts = λ unused. subst (λ left. AreLeftNumbers (generated g.E.Values.product g.E.PartialEq.eq c.args.generators.now.items unused) (words_of c.loop-letter.self.factors.items) left) (sym c.in_ok-push.ensures.items)
          (lefts_read (setting_of g.met.E.Values.products g.met.E.Element.one_shape c.requires.shape unused) (c.loop-letter.invariant.grown.1 unused) c.args.number c.loop-letter.letter c.loop-letter.invariant.within letter c.loop-letter.invariant.rows (c.loop-letter.invariant.lefts unused) c.len-letters.result (omega (arith, c.len-letters.ensures)) c.index-factor.ensures c.loop-letter.invariant.reach c.left_number-product.ensures);
    }
