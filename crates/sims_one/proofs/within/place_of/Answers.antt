use Rattle.std.proofs.Common.{rules}
use Rattle.sims_one.proofs.PlaceLaws.{place_short, place_above, place_below, place_along}
use Rattle.sims_one.proofs.within.place_of.Goals as goal

pub returns-then-cursor-i-clause-greater : goal.returns-then-cursor-i-clause-greater
returns-then-cursor-i-clause-greater c = λ _ u some w. place_short c.args.front.now c.args.cursor.now c.loop-i.i c.loop-i.invariant c.if-cursor-i.true c.loop-i-test.true u w

pub returns-then-cursor-i-2-clause-greater : goal.returns-then-cursor-i-2-clause-greater
returns-then-cursor-i-2-clause-greater c = λ _ u some w. place_above c.args.front.now c.args.cursor.now c.loop-i.i c.loop-i.invariant c.loop-i-test.true c.if-cursor-i.false c.if-cursor-i-2.true u w

pub returns-then-front-i-clause-less : goal.returns-then-front-i-clause-less
returns-then-front-i-clause-less c = λ _ u w. place_below c.args.front.now c.args.cursor.now c.loop-i.i c.loop-i.invariant c.loop-i-test.true c.if-cursor-i.false c.if-front-i.true u w

pub returns-else-is_empty-clause-equal : goal.returns-else-is_empty-clause-equal
returns-else-is_empty-clause-equal c = λ _. (place_along c.args.front.now c.args.cursor.now c.loop-i.i c.loop-i.invariant c.loop-i-test.false, search rules)
