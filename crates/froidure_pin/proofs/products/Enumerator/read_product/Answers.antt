use Rattle.std.proofs.Common.{◌<◌, length, sym, ◌∙◌, arith}
use Rattle.froidure_pin.proofs.OneShape.{some_value}
use Rattle.froidure_pin.proofs.Search.{setting_of}
use Rattle.froidure_pin.proofs.Telling.{tail_within, rest_place_read, rest_within_read, product_read, prefix_place_read, before_within_read, product_place_read, number_read}
use Rattle.froidure_pin.proofs.products.Enumerator.read_product.Goals as goal

pub index-tail-requires : goal.index-tail-requires
index-tail-requires g c =
    let unused = some_value c.args.self.now.generators.now.items (omega (arith, c.requires.letter)) in
    let within = tail_within (setting_of g.met.E.Values.products g.met.E.Element.one_shape c.requires.shape unused) (c.requires.at unused) c.requires.letter in
    omega (arith, within, c.args.growth.now.tails.ok.0)

pub entry-rest-requires : goal.entry-rest-requires
entry-rest-requires g c =
    let unused = some_value c.args.self.now.generators.now.items (omega (arith, c.requires.letter)) in
    rest_place_read (setting_of g.met.E.Values.products g.met.E.Element.one_shape c.requires.shape unused) (c.requires.at unused) c.requires.letter c.len-letters.result (omega (arith, c.len-letters.ensures)) c.index-tail.ensures

pub is_product-requires : goal.is_product-requires
is_product-requires g c =
    let unused = some_value c.args.self.now.generators.now.items (omega (arith, c.requires.letter)) in
    rest_within_read (setting_of g.met.E.Values.products g.met.E.Element.one_shape c.requires.shape unused) (c.requires.at unused) c.requires.letter c.len-letters.result (omega (arith, c.len-letters.ensures)) c.index-tail.ensures c.entry-rest.ensures

pub returns-then-is_product-clause-least : goal.returns-then-is_product-clause-least
returns-then-is_product-clause-least g c = λ _.
    let unused = some_value c.args.self.now.generators.now.items (omega (arith, c.requires.letter)) in
    product_read (setting_of g.met.E.Values.products g.met.E.Element.one_shape c.requires.shape unused) (c.requires.at unused) c.requires.letter c.len-letters.result (omega (arith, c.len-letters.ensures)) c.index-tail.ensures c.entry-rest.ensures (sym c.is_product.ensures ∙ c.if-is_product.true)

pub index-factor-requires : goal.index-factor-requires
index-factor-requires g c =
    let unused = some_value c.args.self.now.generators.now.items (omega (arith, c.requires.letter)) in
    let within = rest_within_read (setting_of g.met.E.Values.products g.met.E.Element.one_shape c.requires.shape unused) (c.requires.at unused) c.requires.letter c.len-letters.result (omega (arith, c.len-letters.ensures)) c.index-tail.ensures c.entry-rest.ensures in
    omega (arith, within, c.args.growth.now.factors.ok.0)

pub entry-product-requires : goal.entry-product-requires
entry-product-requires g c =
    let unused = some_value c.args.self.now.generators.now.items (omega (arith, c.requires.letter)) in
    prefix_place_read (setting_of g.met.E.Values.products g.met.E.Element.one_shape c.requires.shape unused) (c.requires.at unused) c.requires.letter c.len-letters.result (omega (arith, c.len-letters.ensures)) c.index-tail.ensures c.entry-rest.ensures
    (sym c.is_product.ensures ∙ c.if-is_product.false) c.index-factor.ensures

pub overflow_add-product : goal.overflow_add-product
overflow_add-product g c =
    let unused = some_value c.args.self.now.generators.now.items (omega (arith, c.requires.letter)) in
    let less : c.entry-product.result < length c.args.growth.now.factors.items = before_within_read (setting_of g.met.E.Values.products g.met.E.Element.one_shape c.requires.shape unused) (c.requires.at unused) c.requires.letter c.len-letters.result (omega (arith, c.len-letters.ensures)) c.index-tail.ensures c.entry-rest.ensures
    (sym c.is_product.ensures ∙ c.if-is_product.false) c.index-factor.ensures c.entry-product.ensures in
    grind arith

pub number_at-requires : goal.number_at-requires
number_at-requires g c =
    let unused = some_value c.args.self.now.generators.now.items (omega (arith, c.requires.letter)) in
    product_place_read (setting_of g.met.E.Values.products g.met.E.Element.one_shape c.requires.shape unused) (c.requires.at unused) c.requires.letter c.len-letters.result (omega (arith, c.len-letters.ensures)) c.index-tail.ensures c.entry-rest.ensures
    (sym c.is_product.ensures ∙ c.if-is_product.false) c.index-factor.ensures c.entry-product.ensures

pub returns-clause-read : goal.returns-clause-read
returns-clause-read g c = λ unused.
    number_read (setting_of g.met.E.Values.products g.met.E.Element.one_shape c.requires.shape unused) (c.requires.at unused) c.requires.letter c.len-letters.result (omega (arith, c.len-letters.ensures)) c.index-tail.ensures c.entry-rest.ensures
    (sym c.is_product.ensures ∙ c.if-is_product.false) c.index-factor.ensures c.entry-product.ensures c.number_at.ensures
