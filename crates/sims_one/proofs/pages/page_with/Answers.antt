use Rattle.std.proofs.Common.{◌≡◌, ◌+◌, ◌++◌, ◌∷◌, [], ℕ, List, take, map, get_or, Some, sym, ◌∙◌, ap, ap₂, subst, arith}
use Rattle.std.proofs.Math.ListN.{get_or-map}
use Rattle.std.proofs.lemmas.List.{take_more, map_push, length-map}
use Rattle.theory.specs.Graph.{Graph}
use Rattle.theory.specs.LowIndex.{graph_of}
use Rattle.sims_one.specs.Targets.{table_of, IsTable}
use Rattle.sims_one.specs.Search.{Before}
use Rattle.sims_one.specs.Asked.{asked, IsWanted}
use Rattle.sims_one.specs.Fronts.{lists_in}
use Rattle.sims_one.proofs.PageLaws.{first_has}
use Rattle.sims_one.proofs.pages.page_with.Goals as goal

pub table_graph-requires : goal.table_graph-requires
table_graph-requires c =
    let a = asked c.args.request.now in
    let us = lists_in c.args.found.now in
    let i : ℕ = c.loop-i.i in
    let item = c.index-found-i.result in
    let here : get_or us i item.items ≡ c.as_slice.result.now = get_or-map (λ v. v.items) c.args.found.now i item ∙ ap (λ v. v.items) (sym c.index-found-i.is) ∙ sym c.as_slice.ensures.value in
    let wanted = first_has (IsWanted a) Before (Some a.cursor) a.count us i item.items c.requires
    (omega (arith, c.loop-i-test.true, c.min-count.ensures)) (omega (arith, c.loop-i-test.true, c.min-count.ensures, length-map c.args.found.now (λ v. v.items))) in
    subst (IsTable a.presentation a.classes) here wanted.table

pub loop-i-preserved : goal.loop-i-preserved
loop-i-preserved c =
    let k : ℕ = c.args.request.now.presentation.now.presentation.letters in
    let us = lists_in c.args.found.now in
    let i : ℕ = c.loop-i.i in
    let item = c.index-found-i.result in
    let shown : List ℕ → Graph = λ u. graph_of (table_of k u) in
    let here : get_or us i item.items ≡ c.as_slice.result.now = get_or-map (λ v. v.items) c.args.found.now i item ∙ ap (λ v. v.items) (sym c.index-found-i.is) ∙ sym c.as_slice.ensures.value in
    let more : take (i + 1) us ≡ take i us ++ c.as_slice.result.now ∷ [] = take_more us i item.items (omega (arith, c.loop-i-test.true, c.min-count.ensures, length-map c.args.found.now (λ v. v.items))) ∙ ap (λ (t : List ℕ). take i us ++ t ∷ []) here in
    c.in_ok-push.ensures.items
    ∙ ap₂ (λ (xs : List Graph) (x : Graph). xs ++ x ∷ []) c.loop-i.invariant c.in_ok-table_graph.ensures
    ∙ sym (ap (map shown) more ∙ map_push shown (take i us) c.as_slice.result.now)
