use Rattle.std.proofs.Common.{◌≡◌, ◌∙◌, ◌+◌, ◌*◌, ℕ, Some, slice_get, ap, sym, arith}
use Rattle.sims_one.proofs.PathLaws.{letter_over}
use Rattle.sims_one.proofs.EdgeLaws.{path_take, place_within}
use Rattle.sims_one.proofs.known.Known.follow.Goals as goal

pub target-requires : goal.target-requires
target-requires c =
    let over = letter_over c.args.letters c.args.word.now c.loop-i.i c.letter.result c.requires.word c.letter.ensures in
    place_within c.args.letters c.loop-i.at c.number.result c.requires.letters c.loop-i.invariant.small (omega (arith, over, c.number.ensures))

pub loop-i-preserved : goal.loop-i-preserved
loop-i-preserved c = record {
  path = λ u has.
      let letter : slice_get c.args.word.now c.loop-i.i ≡ Some c.number.result = c.letter.ensures ∙ ap (λ (z : ℕ). Some z) (sym c.number.ensures) in
      path_take c.args.letters u c.args.node c.args.word.now c.loop-i.i c.loop-i.at c.number.result c.in-Some.next
      (c.loop-i.invariant.path u has) letter (has (c.loop-i.at * c.args.letters + c.number.result) c.in-Some.next (sym c.in-Some.ensures.target));
  small = c.in-Some.ensures.small;
}
