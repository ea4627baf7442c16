use Rattle.std.proofs.Common.{ℕ, sym, subst₂, arith}
use Rattle.congruence_classes.proofs.PlaceLaws.{Halved, lower_half, middle, upper_half, comes_before, comes_not_before}
use Rattle.congruence_classes.proofs.listing.place_behind.Goals as goal
use Rattle.congruence_classes.proofs.listing.place_behind.Goals.{then-is_lt, else-is_lt}

pub loop-low-init : goal.loop-low-init
loop-low-init g c = record {
  first_low = omega arith;
  ordered = omega (arith, c.requires.first, c.count-high.ensures);
  within = omega (arith, c.count-high.ensures);
  before = λ i h l. absurd (omega arith);
  after = λ i h w. absurd (omega (arith, c.count-high.ensures));
}

pub loop-low-preserved : goal.loop-low-preserved
loop-low-preserved g c =
    let list = g.L.ListedClasses.list c.args.classes.now in
    elim c.if-is_lt.branch [
      | then-is_lt w ↦
          subst₂ (λ (l h : ℕ). Halved list c.args.first c.args.cursor.now l h) (sym w.low-is) (sym w.high-is)
          (upper_half list c.requires.listing.ascending c.args.first c.args.cursor.now c.loop-low.low c.loop-low.high c.loop-low-test.true c.loop-low.invariant
          (comes_before c.args.cursor.now c.in_ok-word.word (list.word (middle c.loop-low.low c.loop-low.high)) c.shortlex.result c.is_lt.result c.shortlex.ensures c.is_lt.ensures w.if-is_lt.true
          c.in_ok-word.ensures))
      | else-is_lt w ↦
          subst₂ (λ (l h : ℕ). Halved list c.args.first c.args.cursor.now l h) (sym w.low-is) (sym w.high-is)
          (lower_half list c.requires.listing.ascending c.args.first c.args.cursor.now c.loop-low.low c.loop-low.high c.loop-low-test.true c.loop-low.invariant
          (comes_not_before c.args.cursor.now c.in_ok-word.word (list.word (middle c.loop-low.low c.loop-low.high)) c.shortlex.result c.is_lt.result c.shortlex.ensures c.is_lt.ensures w.if-is_lt.false
          c.in_ok-word.ensures))
    ]

pub returns : goal.returns
returns g c = record {
  within = (omega (arith, c.loop-low.invariant.first_low), omega (arith, c.loop-low.invariant.ordered, c.loop-low.invariant.within));
  before = c.loop-low.invariant.before;
  after = λ i h w. c.loop-low.invariant.after i (omega (arith, c.loop-low-test.false, c.loop-low.invariant.ordered)) w;
}
