use Rattle.std.proofs.Common.{◌≡◌, ◌∙◌, ℕ, List, ap, arith, sym, take}
use Rattle.std.proofs.lemmas.List.{length-set}
use Rattle.words.proofs.PieceLaws.{first_letters, letter_more}
use Rattle.words.proofs.letters.hash_piece.Goals as goal

pub loop-place-preserved : goal.loop-place-preserved
loop-place-preserved g c = (
  letter_more c.loop-place.bytes c.args.letters.now c.loop-place.place c.letter.inside.number c.index-letters-place.result c.loop-place.invariant.0
      (omega (arith, c.loop-place.invariant.1, c.min-count.ensures, c.loop-place-test.true))
      (omega (arith, c.min-count.ensures, c.loop-place-test.true)) c.letter.view_is c.index-letters-place.is,
  length-set c.loop-place.bytes c.loop-place.place c.letter.inside.number ∙ c.loop-place.invariant.1,
)

pub returns : goal.returns
returns g c =
    let all : c.loop-place.place ≡ c.min-count.result = omega (arith, c.loop-place-test.false, c.loop-place.auto.place-end) in
    c.write.ensures
    ∙ ap (λ (xs : List ℕ). g.H.Hasher.write c.args.state.now xs)
    (ap (λ n. take n c.loop-place.bytes) (sym all) ∙ c.loop-place.invariant.0 ∙ first_letters c.args.letters.now c.loop-place.place (all ∙ c.min-count.ensures))
