use Rattle.std.proofs.Common.{◌≡◌, ℕ, zero, suc, ◌+◌, ◌<◌, ◌≤◌, [], ◌∷◌, ◌++◌, length, take, drop, get_or, slice_get, Some, sym, ◌∙◌, ap, arith, add-one}
use Rattle.std.proofs.Math.Seq.{take-suc}
use Rattle.std.proofs.lemmas.Option.{get_or_from_slice_get}
use Rattle.theory.specs.Word.{Word as Letters}
use Rattle.congruence_classes.proofs.listing.rest_of.Goals as goal

-- one letter more
rest_more : (w rest : Letters) (place letter : ℕ) → 1 ≤ place → place < length w → rest ≡ drop 1 (take place w) → slice_get w place ≡ Some letter
    → rest ++ letter ∷ [] ≡ drop 1 (take (place + 1) w)
rest_more [] rest place letter some within e at = absurd (omega arith)
rest_more (d ∷ w) rest zero letter some within e at = absurd (omega arith)
rest_more (d ∷ w) rest (suc n) letter some within e at =
    let got : get_or w n 0 ≡ letter = get_or_from_slice_get w n letter 0 at in
    rw add-one (ap (λ r. r ++ letter ∷ []) e ∙ ap (λ a. take n w ++ a ∷ []) (sym got) ∙ sym (take-suc w n 0 (omega arith)))

pub loop-place-preserved : goal.loop-place-preserved
loop-place-preserved c =
    c.in_ok-push.ensures.ok ∙ rest_more c.args.word.now c.loop-place.rest c.loop-place.place c.letter.result c.loop-place.auto.place (omega (arith, c.loop-place-test.true, c.len-place-end.ensures)) c.loop-place.invariant c.letter.ensures
