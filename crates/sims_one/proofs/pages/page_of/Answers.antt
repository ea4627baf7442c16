use Rattle.std.proofs.Common.{◌<◌, sym, subst, arith}
use Rattle.std.proofs.lemmas.List.{length-map}
use Rattle.sims_one.specs.Asked.{asked, AreTables}
use Rattle.sims_one.specs.Fronts.{lists_in}
use Rattle.sims_one.proofs.PageLaws.{if_ok_thrice, page_found}
use Rattle.sims_one.proofs.pages.page_of.Goals as goal

pub returns : goal.returns
returns g c =
    let a = asked c.args.request.now in
    let some : 0 < a.presentation.letters = omega (arith, c.letters-letters.ensures.letters, c.letters-letters.ensures.some) in
    let vs = c.as_slice.result.now in
    let long = length-map vs (λ v. v.items) in
    let tables : AreTables a (lists_in vs) = subst (λ xs. AreTables a (lists_in xs)) (sym c.as_slice.ensures.value) c.in_ok-found.ensures in
    if_ok_thrice c.page_with.result _ _ _ _ c.page_with.ensures.tables c.page_with.ensures.more c.page_with.ensures.end
    (λ page are more end. page_found a some c.relations-relations.ensures.presented.elements (lists_in vs) page.tables.items page.more c.requires.asked tables are (λ h. more (omega (arith, h, long))) (λ h. end (omega (arith, h, long))))
