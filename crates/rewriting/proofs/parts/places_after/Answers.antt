use Rattle.std.proofs.Common.{◌<◌, ◌∷◌, ◌++◌, [], List, None, Option, get_or, length, map, take, ℕ, sym, ◌∙◌, ap, ap₂, arith}
use Rattle.std.proofs.lemmas.List.{map_push, take_more}
use Rattle.rewriting.specs.Parts.{through}
use Rattle.rewriting.proofs.parts.places_after.Goals as goal

pub loop-place-preserved : goal.loop-place-preserved
loop-place-preserved c =
    let places = c.args.places.now in
    let index = c.loop-place.place-index in
    let goes = through c.args.moved.now in
    let inside : index < length places = omega (arith, c.loop-place-test.true) in
    c.in_ok-push.ensures.items ∙ ap₂ (λ (ps : List (Option ℕ)) (o : Option ℕ). ps ++ o ∷ []) c.loop-place.invariant c.through.ensures
    ∙ sym (ap (map goes) (take_more places index None inside) ∙ map_push goes (take index places) (get_or places index None))
