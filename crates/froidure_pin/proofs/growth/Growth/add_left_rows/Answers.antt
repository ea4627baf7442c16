use Rattle.std.proofs.Common.{◌≡◌, ◌+◌, ◌*◌, length, refl, sym, ap, subst, ◌∙◌, arith}
use Rattle.froidure_pin.specs.declared.growth.Growth.{Growth}
use Rattle.froidure_pin.specs.Found.{generated, words_of}
use Rattle.froidure_pin.specs.Growing.{IsGrown, IsLevel, ReachesAsLong}
use Rattle.froidure_pin.specs.Kept.{lists_of}
use Rattle.froidure_pin.proofs.OneShape.{some_value}
use Rattle.froidure_pin.proofs.Search.{found_count, setting_of}
use Rattle.froidure_pin.proofs.OneMore.{grown_left}
use Rattle.froidure_pin.proofs.Levels.{level_as_long, level_next}
use Rattle.froidure_pin.proofs.growth.Growth.add_left_rows.Goals as goal

pub loop-number-init : goal.loop-number-init
loop-number-init g c =
    let within = c.requires.within (some_value c.args.generators.now.items c.requires.some) in
    record {
      low = omega arith;
      kept = refl;
      grown = λ unused. (c.requires.within unused).grown;
      level = within.level;
      rows = within.rows;
      lefts = λ unused. (c.requires.within unused).lefts;
    }

pub add_left_row-requires-clause-within : goal.add_left_row-requires-clause-within
add_left_row-requires-clause-within g c =
    let unused = some_value c.args.generators.now.items c.requires.some in
    omega (arith, c.loop-number.invariant.level.within, c.loop-number-test.true, found_count (setting_of g.met.E.Values.products g.met.E.Element.one_shape c.requires.shape unused) (c.loop-number.invariant.grown unused).found)

pub add_left_row-requires-clause-grown : goal.add_left_row-requires-clause-grown
add_left_row-requires-clause-grown g c = (c.args.last + 1, c.loop-number.invariant.grown)

pub add_left_row-requires-clause-reach : goal.add_left_row-requires-clause-reach
add_left_row-requires-clause-reach g c =
    let letters = length c.args.generators.now.items in
    let words = words_of c.loop-number.self.factors.items in
    let unused = some_value c.args.generators.now.items c.requires.some in
    let rows : (c.args.last + 1) * letters ≡ length c.loop-number.self.right.items = omega (arith, (c.loop-number.invariant.grown unused).found.count) in
    subst (λ n. ReachesAsLong letters words n c.loop-number.number) rows (level_as_long letters words c.args.first c.args.last c.loop-number.number c.loop-number.invariant.low c.loop-number-test.true c.loop-number.invariant.level)

pub loop-number-preserved : goal.loop-number-preserved
loop-number-preserved g c =
    let kept = c.in_ok-add_left_row.ensures.kept in
    record {
      low = omega (arith, c.loop-number.invariant.low);
      kept = kept ∙ ap (λ (grown : Growth g.row.E.Denot). record grown { left = c.add_left_row.new.self.left }) c.loop-number.invariant.kept;
      grown = λ unused. subst (λ (grown : Growth g.row.E.Denot). IsGrown (generated g.E.Values.product g.E.PartialEq.eq c.args.generators.now.items unused) (lists_of grown) (c.args.last + 1) 0) (sym kept) (grown_left c.add_left_row.new.self.left.items (c.loop-number.invariant.grown unused));
      level = subst (λ (grown : Growth g.row.E.Denot). IsLevel (words_of grown.factors.items) c.args.first c.args.last) (sym kept) c.loop-number.invariant.level;
      rows = c.in_ok-add_left_row.ensures.rows;
      lefts = c.in_ok-add_left_row.ensures.left;
    }

pub returns-clause-within : goal.returns-clause-within
returns-clause-within g c = λ unused.
    let grown = c.loop-number.invariant.grown unused in
    let full : c.loop-number.number ≡ c.args.last = omega (arith, c.loop-number-test.false, c.loop-number.auto.number-end) in
    let words = words_of c.loop-number.self.factors.items in
    record {
      grown = grown;
      lefts = c.loop-number.invariant.lefts unused;
      rows = c.loop-number.invariant.rows ∙ ap (λ n. (n + 1) * length c.args.generators.now.items) full;
      level = subst (λ n. IsLevel words c.args.last n) (found_count (setting_of g.met.E.Values.products g.met.E.Element.one_shape c.requires.shape unused) grown.found) (level_next words c.args.first c.args.last c.requires.order c.loop-number.invariant.level);
    }
