use Rattle.std.proofs.Common.{refl, ◌≡◌, ◌-◌, length, slice_get, Some, sym, ◌∙◌, subst}
use Rattle.coincidence.proofs.ReadLaws.{side_leads}
use Rattle.tc_hlt.proofs.rows.end_of.Goals as goal

pub returns : goal.returns
returns c = λ node here.
    let at : slice_get c.args.side.now (length c.args.side.now - 1) ≡ Some c.letter.result = subst (λ i. slice_get c.args.side.now i ≡ Some c.letter.result) c.before_last.ensures c.letter.ensures in
    c.target.ensures ∙ sym (side_leads c.args.table.now.graph node c.args.at c.letter.result (length c.args.side.now) c.args.side.now refl (λ e. c.if-len-eq0.false (c.len.ensures ∙ e)) at here)
