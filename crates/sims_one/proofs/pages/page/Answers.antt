use Rattle.std.proofs.Common.{◌∙◌, false, ap, refl, subst}
use Rattle.presentation.specs.Presented.{Presented}
use Rattle.sims_one.specs.Targets.{cursor_of}
use Rattle.sims_one.specs.Asked.{Asked}
use Rattle.sims_one.specs.Pages.{IsPageOf}
use Rattle.sims_one.proofs.PageLaws.{if_ok, page_any}
use Rattle.sims_one.proofs.pages.page.Goals as goal

pub returns : goal.returns
returns g c =
    let a : Presented → Asked = λ p. record { presentation = p.presentation; classes = c.args.n; two_sided = false; cursor = c.as_slice.result.now; count = c.args.count } in
    let p = c.args.presentation.now in
    if_ok c.page_of.result _ _ c.page_of.ensures
    (λ page h cursor same. page_any (a p) page.tables.items page.more cursor (ap (cursor_of p.presentation.letters) c.as_slice.ensures.value ∙ c.in_ok-cursor.ensures.after cursor same)
    (subst (λ (q : Presented). IsPageOf (a q) page.tables.items page.more) c.new-indexed.ensures h) refl)
