use Rattle.std.proofs.Common.{◌≡◌, length, subst, arith}
use Rattle.froidure_pin.specs.Found.{generated}
use Rattle.froidure_pin.specs.Growing.{AreFoundFrom, IsWithin, with_steps}
use Rattle.froidure_pin.specs.Kept.{lists_of}
use Rattle.froidure_pin.proofs.OneShape.{some_value}
use Rattle.froidure_pin.proofs.Search.{setting_of}
use Rattle.froidure_pin.proofs.Making.{most_level}
use Rattle.froidure_pin.proofs.Beginning.{counted_none}
use Rattle.froidure_pin.proofs.Results.{not_more, over_told}
use Rattle.froidure_pin.proofs.products.Enumerator.take_all.Goals as goal

pub returns-then-branch-clause-found : goal.returns-then-branch-clause-found
returns-then-branch-clause-found g c = λ unused. over_told ((c.in_ok-take_generators.ensures unused).more c.if-branch.true)

pub loop-first-init : goal.loop-first-init
loop-first-init g c =
    let begun = λ (unused : g.row.E.Denot). (c.in_ok-take_generators.ensures unused).holds c.if-branch.false in
    record {
      few = (begun (some_value c.args.self.now.generators.now.items c.requires.some)).few;
      reached = omega arith;
      counted = omega arith;
      most = omega arith;
      found = λ unused. record { few = (begun unused).few; within = (begun unused).within; count = counted_none (setting_of g.met.E.Values.products g.met.E.Element.one_shape c.requires.shape unused) };
    }

pub take_level-requires-clause-within : goal.take_level-requires-clause-within
take_level-requires-clause-within g c = λ unused.
    let last : length c.loop-first.growth.elements.keys ≡ c.len-last.result = omega (arith, c.len-last.ensures.len) in
    subst (λ n. IsWithin (generated g.E.Values.product g.E.PartialEq.eq c.args.self.now.generators.now.items unused) (lists_of c.loop-first.growth) c.loop-first.first n c.loop-first.first) last (c.loop-first.invariant.found unused).within

pub returns-in_err-take_level-clause-most : goal.returns-in_err-take_level-clause-most
returns-in_err-take_level-clause-most g c = most_level (length c.args.self.now.generators.now.items) c.args.self.now.bound c.loop-first.first c.len-last.result c.args.steps.now c.loop-first.steps c.take_level.new.steps (omega (arith, c.len-last.ensures.len, c.loop-first.invariant.few)) c.loop-first.invariant.most c.take_level.ensures.most

pub returns-then-branch-2-clause-most : goal.returns-then-branch-2-clause-most
returns-then-branch-2-clause-most g c = most_level (length c.args.self.now.generators.now.items) c.args.self.now.bound c.loop-first.first c.len-last.result c.args.steps.now c.loop-first.steps c.take_level.new.steps (omega (arith, c.len-last.ensures.len, c.loop-first.invariant.few)) c.loop-first.invariant.most c.take_level.ensures.most

pub returns-then-branch-2-clause-found : goal.returns-then-branch-2-clause-found
returns-then-branch-2-clause-found g c = λ unused. over_told ((c.in_ok-take_level.ensures.taken unused).more c.if-branch-2.true)

pub loop-first-preserved : goal.loop-first-preserved
loop-first-preserved g c =
    let done = λ (unused : g.row.E.Denot). (c.in_ok-take_level.ensures.taken unused).holds c.if-branch-2.false in
    let some = done (some_value c.args.self.now.generators.now.items c.requires.some) in
    record {
      few = some.few;
      reached = some.reached;
      counted = omega (arith, c.in_ok-take_level.ensures.counted, c.loop-first.invariant.counted);
      most = omega (arith, c.in_ok-take_level.ensures.most, c.loop-first.invariant.most);
      found = λ unused. record { few = (done unused).few; within = (done unused).within; count = (done unused).count c.args.steps.now (c.loop-first.invariant.found unused).count };
    }

pub returns-clause-most : goal.returns-clause-most
returns-clause-most g c = most_level (length c.args.self.now.generators.now.items) c.args.self.now.bound c.loop-first.first c.loop-first.first c.args.steps.now c.loop-first.steps c.loop-first.steps (omega (arith, c.loop-first.invariant.reached, c.loop-first.invariant.few)) c.loop-first.invariant.most (omega arith)

pub returns-clause-found : goal.returns-clause-found
returns-clause-found g c = λ unused.
    let last : c.loop-first.first ≡ length c.loop-first.growth.elements.keys = omega (arith, c.len.ensures.len, c.loop-first-test.false, c.loop-first.invariant.reached) in
    not_more (subst (λ n. AreFoundFrom (generated g.E.Values.product g.E.PartialEq.eq c.args.self.now.generators.now.items unused) c.args.self.now.bound (with_steps (lists_of c.loop-first.growth) c.loop-first.steps) c.args.steps.now n) last (c.loop-first.invariant.found unused))
