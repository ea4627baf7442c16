use Rattle.std.proofs.Common.{refl, arith}
use Rattle.froidure_pin.proofs.Reading.{over_at}
use Rattle.congruence_classes.proofs.PlaceLaws.{all_over, more_over}
use Rattle.congruence_classes.proofs.listing.is_over.Goals as goal

pub returns-then-number-letters : goal.returns-then-number-letters
returns-then-number-letters c = (
  λ t. cc,
  λ over.
      let small = over_at c.args.letters c.args.word.now c.loop-place.place c.letter.result over c.letter.ensures in
      absurd (omega (arith, small, c.number.ensures, c.if-number-letters.true)),
)

pub loop-place-preserved : goal.loop-place-preserved
loop-place-preserved c =
    more_over c.args.letters c.args.word.now c.loop-place.place c.letter.result c.letter.ensures
    (omega (arith, c.number.ensures, c.if-number-letters.false)) c.loop-place.invariant

pub returns : goal.returns
returns c = (
  λ t. all_over c.args.letters c.args.word.now c.loop-place.place (omega (arith, c.loop-place-test.false, c.len-place-end.ensures)) c.loop-place.invariant,
  λ over. refl,
)
