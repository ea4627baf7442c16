use Rattle.std.proofs.Common.{◌≡◌, length, subst, arith}
use Rattle.froidure_pin.specs.Found.{generated}
use Rattle.froidure_pin.specs.Growing.{IsMultiplied, with_steps}
use Rattle.froidure_pin.specs.Kept.{lists_of}
use Rattle.froidure_pin.proofs.OneShape.{some_value}
use Rattle.froidure_pin.proofs.Making.{step_none, step_on}
use Rattle.froidure_pin.proofs.Results.{not_more, over_told}
use Rattle.froidure_pin.proofs.products.Enumerator.take_products.Goals as goal

pub loop-letter-init : goal.loop-letter-init
loop-letter-init g c = record {
  few = c.requires.few;
  counted = omega arith;
  most = omega arith;
  taken = λ unused. record { few = c.requires.few; step = step_none (c.requires.at unused); count = λ start h. h };
}

pub take_product-requires-clause-at : goal.take_product-requires-clause-at
take_product-requires-clause-at g c = λ unused. (c.loop-letter.invariant.taken unused).step.at

pub returns-then-branch-clause-taken : goal.returns-then-branch-clause-taken
returns-then-branch-clause-taken g c = λ unused. over_told ((c.in_ok-take_product.ensures.taken unused).more c.if-branch.true)

pub loop-letter-preserved : goal.loop-letter-preserved
loop-letter-preserved g c =
    let done = λ (unused : g.row.E.Denot). (c.in_ok-take_product.ensures.taken unused).holds c.if-branch.false in
    record {
      few = (done (some_value c.args.self.now.generators.now.items (omega arith))).few;
      counted = omega (arith, c.in_ok-take_product.ensures.counted, c.loop-letter.invariant.counted);
      most = omega (arith, c.in_ok-take_product.ensures.most, c.loop-letter.invariant.most);
      taken = λ unused. record {
        few = (done unused).few;
        step = step_on (c.loop-letter.invariant.taken unused).step (done unused).step;
        count = λ start h. (done unused).count start ((c.loop-letter.invariant.taken unused).count start h);
      };
    }

pub returns-clause-taken : goal.returns-clause-taken
returns-clause-taken g c = λ unused.
    let full : c.loop-letter.letter ≡ length c.args.self.now.generators.now.items = omega (arith, c.loop-letter-test.false, c.loop-letter.auto.letter-end) in
    not_more (subst (λ n. IsMultiplied (generated g.E.Values.product g.E.PartialEq.eq c.args.self.now.generators.now.items unused) c.args.self.now.bound (with_steps (lists_of c.args.growth.now) c.args.steps.now) (with_steps (lists_of c.loop-letter.growth) c.loop-letter.steps) c.args.number n) full (c.loop-letter.invariant.taken unused))
