use Rattle.std.proofs.Common.{◌≡◌, ◌+◌, ◌-◌, ◌<◌, ◌∷◌, ◌++◌, [], drop, get_or, length, reverse, sym, ◌∙◌, ap, ap₂, arith}
use Rattle.std.proofs.lemmas.List.{append_assoc, drop_more, get_or_read, reverse-append}
use Rattle.theory.specs.Word.{Word}
use Rattle.rewriting.proofs.reductions.put_reversed.Goals as goal

pub loop-place-preserved : goal.loop-place-preserved
loop-place-preserved c =
    let letters = c.args.letters.now in
    let place = c.loop-place.place - 1 in
    let back : c.loop-place.place ≡ place + 1 = omega arith in
    let inside : place < length letters = omega arith in
    let at : c.index-letters-place.result ≡ get_or letters place 0 = get_or_read letters place c.index-letters-place.result inside c.index-letters-place.is 0 in
    c.in_ok-push.ensures.items ∙ ap₂ (λ (xs : Word) x. xs ++ x ∷ []) c.loop-place.invariant at
    ∙ append_assoc c.args.rest.now.items (reverse (drop c.loop-place.place letters)) (get_or letters place 0 ∷ [])
    ∙ ap (λ ys. c.args.rest.now.items ++ ys) (ap (λ n. reverse (drop n letters) ++ get_or letters place 0 ∷ []) back ∙ sym (ap reverse (drop_more letters place 0 inside) ∙ reverse-append (get_or letters place 0 ∷ []) (drop (place + 1) letters)))
