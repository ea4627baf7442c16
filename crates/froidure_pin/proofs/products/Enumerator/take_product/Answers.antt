use Rattle.std.proofs.Common.{◌≡◌, ◌+◌, ◌*◌, ◌<◌, List, length, sym, ap, subst, ◌∙◌, arith}
use Rattle.froidure_pin.specs.Found.{Generated, entry, generated, tail_at, tail_of}
use Rattle.froidure_pin.specs.Growing.{IsMultiplied, IsStep, KeepsCount, with_steps}
use Rattle.froidure_pin.specs.Kept.{HasTakenIn, lists_of}
use Rattle.froidure_pin.proofs.OneShape.{some_value}
use Rattle.froidure_pin.proofs.Results.{if_taken, not_more}
use Rattle.froidure_pin.proofs.Taken.{taken, taken_lists}
use Rattle.froidure_pin.proofs.Search.{read_at, shapes_agree, found_more, not_over, product_is_value, setting_of}
use Rattle.froidure_pin.proofs.Telling.{rest_place, rest_within, tail_within}
use Rattle.froidure_pin.proofs.Making.{made, told, told_count}
use Rattle.froidure_pin.proofs.products.Enumerator.take_product.Given.{Over}
use Rattle.froidure_pin.proofs.products.Enumerator.take_product.Goals as goal

abbrev Of : (g : Over) → List g.row.E.Denot → g.row.E.Denot → Generated g.row.E.Denot
Of g = generated g.E.Values.product g.E.PartialEq.eq

pub index-element-requires : goal.index-element-requires
index-element-requires g c = (c.requires.at (some_value c.args.self.now.generators.now.items (omega (arith, c.requires.letter)))).within

pub multiply-requires : goal.multiply-requires
multiply-requires g c =
    let unused = some_value c.args.self.now.generators.now.items (omega (arith, c.requires.letter)) in
    let at = c.requires.at unused in
    shapes_agree (setting_of g.met.E.Values.products g.met.E.Element.one_shape c.requires.shape unused) c.args.number at.grown.found at.within c.index-element.result.now (read_at _ _ _ at.within c.index-element.ensures) c.index.result.now c.requires.letter (sym c.index.ensures)

-- where the tail is, and the word without its first letter with the letter
asked : (g : Over) (c : goal.After-len g)
    → (c.args.number < length c.args.growth.now.tails.items)
    × ((tail_at c.args.growth.now.tails.items c.args.number).suffix * c.len.result + c.args.letter < length c.args.growth.now.right.items)
    × (entry c.len.result c.args.growth.now.right.items (tail_at c.args.growth.now.tails.items c.args.number).suffix c.args.letter < length c.args.growth.now.factors.items)
asked g c =
    let unused = some_value c.args.self.now.generators.now.items (omega (arith, c.requires.letter)) in
    let letters : length c.args.self.now.generators.now.items ≡ c.len.result = omega (arith, c.len.ensures) in
    let setting = setting_of g.met.E.Values.products g.met.E.Element.one_shape c.requires.shape unused in
    let at = c.requires.at unused in
    let tail = tail_at c.args.growth.now.tails.items c.args.number in (
      tail_within setting at c.requires.letter,
      subst (λ n. tail.suffix * n + c.args.letter < length c.args.growth.now.right.items) letters (rest_place setting at c.requires.letter),
      subst (λ n. entry n c.args.growth.now.right.items tail.suffix c.args.letter < length c.args.growth.now.factors.items) letters (rest_within setting at c.requires.letter),
    )

pub tail_of_product-requires-clause-within : goal.tail_of_product-requires-clause-within
tail_of_product-requires-clause-within g c = (asked g c).0

pub tail_of_product-requires-clause-place : goal.tail_of_product-requires-clause-place
tail_of_product-requires-clause-place g c = (asked g c).1

pub tail_of_product-requires-clause-known : goal.tail_of_product-requires-clause-known
tail_of_product-requires-clause-known g c = (asked g c).2

pub overflow_add-number : goal.overflow_add-number
overflow_add-number g c =
    let unused = some_value c.args.self.now.generators.now.items (omega (arith, c.requires.letter)) in
    let within : c.args.number < length c.args.growth.now.tails.items = tail_within (setting_of g.met.E.Values.products g.met.E.Element.one_shape c.requires.shape unused) (c.requires.at unused) c.requires.letter in
    grind arith

-- what is found once the product is taken in, and what is counted with its step
taken_step : (g : Over) (c : goal.After-goes_over g) → HasTakenIn g.E.PartialEq.eq c.args.growth.now c.goes_over.new.self c.in_ok-made.made c.in_ok-factor.factor c.in_ok-tail.tail → (unused : g.row.E.Denot)
    → IsStep (Of g c.args.self.now.generators.now.items unused) (lists_of c.args.growth.now) (lists_of c.goes_over.new.self) c.args.number (c.args.letter + 1)
    × KeepsCount (Of g c.args.self.now.generators.now.items unused) (lists_of c.args.growth.now) (lists_of c.goes_over.new.self) c.args.steps.now (c.args.steps.now + 1)
taken_step g c now unused =
    let s = Of g c.args.self.now.generators.now.items unused in
    let setting = setting_of g.met.E.Values.products g.met.E.Element.one_shape c.requires.shape unused in
    let old = lists_of c.args.growth.now in
    let at = c.requires.at unused in
    let p = c.in_ok-made.made in
    let value = product_is_value setting c.args.number at.grown.found at.within c.index-element.result.now (read_at _ _ _ at.within c.index-element.ensures) c.index.result.now c.requires.letter (sym c.index.ensures) p c.in_ok-made.ensures.made in
    let tail = tail_at c.args.growth.now.tails.items c.args.number in
    let letters : c.len.result ≡ length c.args.self.now.generators.now.items = omega (arith, c.len.ensures) in
    let tail_is = c.in_ok-tail.ensures ∙ ap (λ n. tail_of tail.first (entry n c.args.growth.now.right.items tail.suffix c.args.letter + 1)) letters in
    let lists_are = taken_lists now ∙ (λ i. taken g.E.PartialEq.eq old p (c.in_ok-factor.ensures i) (tail_is i)) in
    let least = c.read_product.ensures.least c.in_default.is in
    subst (λ new. IsStep s old new c.args.number (c.args.letter + 1) × KeepsCount s old new c.args.steps.now (c.args.steps.now + 1)) (sym lists_are) (made setting at c.requires.letter least p value c.args.steps.now)

pub returns-in-Some-clause-taken : goal.returns-in-Some-clause-taken
returns-in-Some-clause-taken g c = λ unused.
    let s = Of g c.args.self.now.generators.now.items unused in
    let setting = setting_of g.met.E.Values.products g.met.E.Element.one_shape c.requires.shape unused in
    let old = lists_of c.args.growth.now in
    let at = c.requires.at unused in
    not_more (subst (λ rs. IsMultiplied s c.args.self.now.bound (with_steps old c.args.steps.now) (with_steps (record old { right = rs }) c.args.steps.now) c.args.number (c.args.letter + 1)) (sym c.in_ok-push.ensures.items) (record {
      few = c.requires.few;
      step = told setting at c.requires.letter c.in-Some.product (c.in-Some.ensures.read unused);
      count = told_count setting at c.requires.letter c.in-Some.product c.args.steps.now;
    }))

pub returns-clause-taken : goal.returns-clause-taken
returns-clause-taken g c = if_taken c.goes_over.result (λ over now is unused.
    let s = Of g c.args.self.now.generators.now.items unused in
    let step = taken_step g c now unused in
    record {
      more = λ e. found_more (setting_of g.met.E.Values.products g.met.E.Element.one_shape c.requires.shape unused) step.0.at.grown.found (is.0 e);
      holds = λ e. record {
        few = not_over is e;
        step = step.0;
        count = subst (λ n. KeepsCount s (lists_of c.args.growth.now) (lists_of c.goes_over.new.self) c.args.steps.now n) (sym c.in_ok-made.ensures.step) step.1;
      };
    }) c.goes_over.ensures.taken c.goes_over.ensures.over
