use Rattle.std.proofs.Common.{◌∙◌, ◌<◌, ap, sym, arith, length, slice_index, subst}
use Rattle.froidure_pin.proofs.Reading.{over_at}
use Rattle.cayley.specs.Tables.{edge}
use Rattle.cayley.proofs.SideLaws.{first_letter, letter_more}
use Rattle.cayley.proofs.sides.number_of.Goals as goal

pub bounds-as_slice-number : goal.bounds-as_slice-number
bounds-as_slice-number c =
    let small : c.letter.result < length c.args.tables.now.letters = over_at (length c.args.tables.now.letters) c.args.word.now 0 c.letter.result c.requires.over c.letter.ensures in
    omega (arith, small, c.number.ensures, ap length c.as_slice.ensures)

pub loop-place-init : goal.loop-place-init
loop-place-init c =
    let small : c.letter.result < length c.args.tables.now.letters = over_at (length c.args.tables.now.letters) c.args.word.now 0 c.letter.result c.requires.over c.letter.ensures in
    let is = ap (λ xs. slice_index xs c.number.result) c.as_slice.ensures ∙ ap (slice_index c.args.tables.now.letters) c.number.ensures in
    record {
      within = subst (λ n. n < length c.args.tables.now.words) (sym is) (c.requires.fit.letters c.letter.result small);
      so_far = is ∙ sym (first_letter c.args.tables.now c.args.word.now c.letter.result c.letter.ensures);
    }

pub target-number-requires-clause-letter : goal.target-number-requires-clause-letter
target-number-requires-clause-letter c =
    let small : c.letter-in-loop-place.result < length c.args.tables.now.letters = over_at (length c.args.tables.now.letters) c.args.word.now c.loop-place.place c.letter-in-loop-place.result c.requires.over c.letter-in-loop-place.ensures in
    omega (arith, small, c.number-in-loop-place.ensures, c.requires.fit.right.width c.loop-place.number c.loop-place.invariant.within)

pub loop-place-preserved : goal.loop-place-preserved
loop-place-preserved c =
    let small : c.letter-in-loop-place.result < length c.args.tables.now.letters = over_at (length c.args.tables.now.letters) c.args.word.now c.loop-place.place c.letter-in-loop-place.result c.requires.over c.letter-in-loop-place.ensures in
    let is = c.target-number.ensures ∙ ap (edge c.args.tables.now.right c.loop-place.number) c.number-in-loop-place.ensures in
    record {
      within = subst (λ n. n < length c.args.tables.now.words) (sym is) (c.requires.fit.right.within c.loop-place.number c.letter-in-loop-place.result c.loop-place.invariant.within small);
      so_far = is ∙ ap (λ n. edge c.args.tables.now.right n c.letter-in-loop-place.result) c.loop-place.invariant.so_far ∙ sym (letter_more c.args.tables.now c.args.word.now c.loop-place.place c.letter-in-loop-place.result (omega arith) (omega arith) c.letter-in-loop-place.ensures);
    }
