use Rattle.std.proofs.Common.{◌≡◌, ◌+◌, ◌*◌, ◌≤◌, length, sym, subst, arith}
use Rattle.froidure_pin.specs.Found.{generated}
use Rattle.froidure_pin.specs.Growing.{IsWithin, KeepsCount}
use Rattle.froidure_pin.specs.Kept.{lists_of}
use Rattle.froidure_pin.specs.declared.growth.Growth.{Growth}
use Rattle.froidure_pin.proofs.OneShape.{some_value}
use Rattle.froidure_pin.proofs.Search.{found_count, setting_of}
use Rattle.froidure_pin.proofs.Making.{level_at, level_on, most_to}
use Rattle.froidure_pin.proofs.Results.{not_more, over_told}
use Rattle.froidure_pin.proofs.products.Enumerator.take_level.Goals as goal

pub loop-number-init : goal.loop-number-init
loop-number-init g c = record {
  few = c.requires.few;
  counted = omega arith;
  most = omega arith;
  low = omega arith;
  within = c.requires.within;
  count = λ unused start h. h;
}

pub take_products-requires-clause-at : goal.take_products-requires-clause-at
take_products-requires-clause-at g c = λ unused. level_at (setting_of g.met.E.Values.products g.met.E.Element.one_shape c.requires.shape unused) (c.loop-number.invariant.within unused) c.loop-number.invariant.low c.loop-number-test.true

pub returns-in_err-take_products-clause-most : goal.returns-in_err-take_products-clause-most
returns-in_err-take_products-clause-most g c = most_to (length c.args.self.now.generators.now.items) c.args.first c.loop-number.number c.args.last c.args.steps.now c.loop-number.steps c.take_products.new.steps c.loop-number-test.true c.loop-number.invariant.most c.take_products.ensures.most

pub returns-then-branch-clause-taken : goal.returns-then-branch-clause-taken
returns-then-branch-clause-taken g c = λ unused. over_told ((c.in_ok-take_products.ensures.taken unused).more c.if-branch.true)

pub returns-then-branch-clause-most : goal.returns-then-branch-clause-most
returns-then-branch-clause-most g c = most_to (length c.args.self.now.generators.now.items) c.args.first c.loop-number.number c.args.last c.args.steps.now c.loop-number.steps c.take_products.new.steps c.loop-number-test.true c.loop-number.invariant.most c.take_products.ensures.most

pub loop-number-preserved : goal.loop-number-preserved
loop-number-preserved g c =
    let done = λ (unused : g.row.E.Denot). (c.in_ok-take_products.ensures.taken unused).holds c.if-branch.false in
    record {
      few = (done (some_value c.args.self.now.generators.now.items c.requires.some)).few;
      counted = omega (arith, c.in_ok-take_products.ensures.counted, c.loop-number.invariant.counted);
      most = omega (arith, c.in_ok-take_products.ensures.most, c.loop-number.invariant.most);
      low = omega (arith, c.loop-number.invariant.low);
      within = λ unused. level_on (setting_of g.met.E.Values.products g.met.E.Element.one_shape c.requires.shape unused) (c.loop-number.invariant.within unused) (done unused).step c.loop-number.invariant.low c.loop-number-test.true;
      count = λ unused start h. (done unused).count start (c.loop-number.invariant.count unused start h);
    }

pub add_left_rows-requires-clause-within : goal.add_left_rows-requires-clause-within
add_left_rows-requires-clause-within g c = λ unused.
    let full : c.loop-number.number ≡ c.args.last = omega (arith, c.loop-number-test.false, c.loop-number.auto.number-end) in
    subst (λ n. IsWithin (generated g.E.Values.product g.E.PartialEq.eq c.args.self.now.generators.now.items unused) (lists_of c.loop-number.growth) c.args.first c.args.last n) full (c.loop-number.invariant.within unused)

pub returns-in_err-add_left_rows-clause-most : goal.returns-in_err-add_left_rows-clause-most
returns-in_err-add_left_rows-clause-most g c =
    let full : c.loop-number.number ≡ c.args.last = omega (arith, c.loop-number-test.false, c.loop-number.auto.number-end) in
    subst (λ n. c.loop-number.steps + c.args.first * length c.args.self.now.generators.now.items ≤ c.args.steps.now + n * length c.args.self.now.generators.now.items) full c.loop-number.invariant.most

pub returns-clause-most : goal.returns-clause-most
returns-clause-most g c =
    let full : c.loop-number.number ≡ c.args.last = omega (arith, c.loop-number-test.false, c.loop-number.auto.number-end) in
    subst (λ n. c.loop-number.steps + c.args.first * length c.args.self.now.generators.now.items ≤ c.args.steps.now + n * length c.args.self.now.generators.now.items) full c.loop-number.invariant.most

pub returns-clause-taken : goal.returns-clause-taken
returns-clause-taken g c = λ unused.
    let s = generated g.E.Values.product g.E.PartialEq.eq c.args.self.now.generators.now.items unused in
    let kept = c.in_ok-add_left_rows.ensures.kept in
    let within = c.loop-number.invariant.within unused in
    not_more (record {
      few = subst (λ (growth : Growth g.row.E.Denot). length growth.elements.keys ≤ c.args.self.now.bound) (sym kept) c.loop-number.invariant.few;
      reached = subst (λ (growth : Growth g.row.E.Denot). c.args.last ≤ length growth.elements.keys) (sym kept) (omega (arith, within.level.within, found_count (setting_of g.met.E.Values.products g.met.E.Element.one_shape c.requires.shape unused) within.grown.found));
      within = c.in_ok-add_left_rows.ensures.within unused;
      count = subst (λ (growth : Growth g.row.E.Denot). KeepsCount s (lists_of c.args.growth.now) (lists_of growth) c.args.steps.now c.loop-number.steps) (sym kept) (c.loop-number.invariant.count unused);
    })
