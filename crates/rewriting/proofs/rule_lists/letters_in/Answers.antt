use Rattle.std.proofs.Common.{◌+◌, ◌≤◌, arith}
use Rattle.rewriting.proofs.LetterLaws.{letter_over}
use Rattle.rewriting.proofs.rule_lists.letters_in.Goals as goal

pub loop-place-preserved : goal.loop-place-preserved
loop-place-preserved c =
    let more : c.loop-place.letters ≤ c.max-letters.result = omega (arith, c.max-letters.ensures) in
    let above : c.letter.result + 1 ≤ c.max-letters.result = omega (arith, c.max-letters.ensures, c.number.ensures) in
    record {
      few = omega (arith, c.max-letters.ensures, c.number.ensures, c.loop-place.invariant.few);
      least = omega (arith, more, c.loop-place.invariant.least);
      over = letter_over c.loop-place.letters c.max-letters.result c.args.word.now c.loop-place.place c.letter.result c.loop-place.invariant.over (omega arith) c.letter.ensures more above;
    }
