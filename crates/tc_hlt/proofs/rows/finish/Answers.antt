use Rattle.std.proofs.Common.{refl, ◌≡◌, ◌-◌, length, slice_get, take, Some, sym, ◌∙◌, subst}
use Rattle.tc_hlt.proofs.GrowLaws.{grown_last, grown_whole, letter_of}
use Rattle.coincidence.proofs.ReadLaws.{empty_leads, side_leads}
use Rattle.tc_hlt.proofs.rows.finish.Goals as goal

pub returns-then-len-eq0-clause-grown : goal.returns-then-len-eq0-clause-grown
returns-then-len-eq0-clause-grown c = λ node here. grown_whole _ c.args.table.now node c.args.at c.args.side.now c.requires.failed (empty_leads c.args.table.now.graph node c.args.at c.args.side.now (sym c.len.ensures ∙ c.if-len-eq0.true) here)

pub step-requires-clause-letter : goal.step-requires-clause-letter
step-requires-clause-letter c = letter_of c.args.table.now.congruence.presentation.letters c.args.side.now c.before_last.result c.letter.result c.requires.over c.letter.ensures

pub returns-clause-end : goal.returns-clause-end
returns-clause-end c = λ node here.
    let at : slice_get c.args.side.now (length c.args.side.now - 1) ≡ Some c.letter.result = subst (λ i. slice_get c.args.side.now i ≡ Some c.letter.result) c.before_last.ensures c.letter.ensures in
    side_leads c.step.new.table.graph node c.args.at c.letter.result (length c.args.side.now) c.args.side.now refl (λ e. c.if-len-eq0.false (c.len.ensures ∙ e)) at (c.in_ok-end.ensures.grown.paths node c.args.at (take (length c.args.side.now - 1) c.args.side.now) here) ∙ c.in_ok-end.ensures.edge

pub returns-clause-grown : goal.returns-clause-grown
returns-clause-grown c = λ node here.
    let at : slice_get c.args.side.now (length c.args.side.now - 1) ≡ Some c.letter.result = subst (λ i. slice_get c.args.side.now i ≡ Some c.letter.result) c.before_last.ensures c.letter.ensures in
    grown_last c.args.table.now c.step.new.table node c.args.at c.letter.result c.args.side.now (λ e. c.if-len-eq0.false (c.len.ensures ∙ e)) at c.requires.failed here c.in_ok-end.ensures.grown
