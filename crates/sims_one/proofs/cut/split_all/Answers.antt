use Rattle.std.proofs.Common.{◌≡◌, ◌+◌, ◌++◌, ◌∷◌, [], ℕ, List, take, get_or, sym, ◌∙◌, ap, subst, subst₂, arith}
use Rattle.std.proofs.Math.ListN.{get_or-map}
use Rattle.std.proofs.lemmas.List.{take_more, length-map}
use Rattle.sims_one.specs.Asked.{asked}
use Rattle.sims_one.specs.Fronts.{lists_in, IsOpen, AreLonger}
use Rattle.sims_one.proofs.CutLaws.{open_at, longer_both}
use Rattle.sims_one.proofs.cut.split_all.Goals as goal

pub split-requires-clause-opened : goal.split-requires-clause-opened
split-requires-clause-opened c =
    let a = asked c.args.request.now in
    let ts = lists_in c.args.fronts.now in
    let i : ℕ = c.loop-front.front-index in
    let item = c.front-item.result in
    let here : get_or ts i item.items ≡ c.deref.result.now = get_or-map (λ v. v.items) c.args.fronts.now i item ∙ ap (λ v. v.items) (sym c.front-item.is) ∙ sym c.deref.ensures.value in
    subst (IsOpen a) here (open_at a ts i item.items c.requires.opened (omega (arith, c.loop-front-test.true, length-map c.args.fronts.now (λ v. v.items))))

pub loop-front-preserved : goal.loop-front-preserved
loop-front-preserved c =
    let a = asked c.args.request.now in
    let ts = lists_in c.args.fronts.now in
    let i : ℕ = c.loop-front.front-index in
    let item = c.front-item.result in
    let here : get_or ts i item.items ≡ c.deref.result.now = get_or-map (λ v. v.items) c.args.fronts.now i item ∙ ap (λ v. v.items) (sym c.front-item.is) ∙ sym c.deref.ensures.value in
    let more : take (i + 1) ts ≡ take i ts ++ c.deref.result.now ∷ [] = take_more ts i item.items (omega (arith, c.loop-front-test.true, length-map c.args.fronts.now (λ v. v.items))) ∙ ap (λ (t : List ℕ). take i ts ++ t ∷ []) here in
    let split = c.in_ok-split.ensures in
    subst₂ (AreLonger a) (sym more) (sym split.added) (longer_both a (take i ts) (lists_in c.loop-front.all.items) (c.deref.result.now ∷ []) split.longer c.loop-front.invariant split.are)
