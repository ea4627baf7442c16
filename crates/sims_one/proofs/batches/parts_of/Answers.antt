use Rattle.std.proofs.Common.{◌≡◌, ◌+◌, ◌++◌, ◌∷◌, [], ℕ, List, take, map, get_or, sym, ◌∙◌, ap, ap₂, subst, arith}
use Rattle.std.proofs.Math.ListN.{get_or-map}
use Rattle.std.proofs.lemmas.List.{take_more, map_push, length-map}
use Rattle.sims_one.specs.Asked.{asked, Asked}
use Rattle.sims_one.specs.Fronts.{lists_in, IsOpen, Sought, part_tasks}
use Rattle.sims_one.proofs.CutLaws.{open_at}
use Rattle.sims_one.proofs.batches.parts_of.Goals as goal

pub new-requires-clause-opened : goal.new-requires-clause-opened
new-requires-clause-opened c =
    let a = asked c.args.request.now in
    let ts = lists_in c.args.fronts.now in
    let i : ℕ = c.loop-front.front-index in
    let item = c.front-item.result in
    let here : get_or ts i item.items ≡ c.in_ok-front.front.items = get_or-map (λ v. v.items) c.args.fronts.now i item ∙ ap (λ v. v.items) (sym c.front-item.is) ∙ sym c.as_slice.ensures.value ∙ sym c.in_ok-front.ensures.items in
    subst (IsOpen a) here (open_at a ts i item.items c.requires.opened (omega (arith, c.loop-front-test.true, length-map c.args.fronts.now (λ v. v.items))))

pub loop-front-preserved : goal.loop-front-preserved
loop-front-preserved c =
    let a = asked c.args.request.now in
    let ts = lists_in c.args.fronts.now in
    let i : ℕ = c.loop-front.front-index in
    let item = c.front-item.result in
    let for : List ℕ → Asked × List ℕ = λ t. (a, t) in
    let task : Sought → Asked × List ℕ = λ s. (s.asked, s.front) in
    let here : get_or ts i item.items ≡ c.in_ok-front.front.items = get_or-map (λ v. v.items) c.args.fronts.now i item ∙ ap (λ v. v.items) (sym c.front-item.is) ∙ sym c.as_slice.ensures.value ∙ sym c.in_ok-front.ensures.items in
    let more : take (i + 1) ts ≡ take i ts ++ c.in_ok-front.front.items ∷ [] = take_more ts i item.items (omega (arith, c.loop-front-test.true, length-map c.args.fronts.now (λ v. v.items))) ∙ ap (λ (t : List ℕ). take i ts ++ t ∷ []) here in
    ap part_tasks c.in_ok-push.ensures.items ∙ map_push task c.loop-front.parts.items c.new.result
    ∙ ap₂ (λ (xs : List (Asked × List ℕ)) (x : Asked × List ℕ). xs ++ x ∷ []) c.loop-front.invariant (ap task c.new.ensures)
    ∙ sym (ap (map for) more ∙ map_push for (take i ts) c.in_ok-front.front.items)
