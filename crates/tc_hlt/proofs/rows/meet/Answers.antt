use Rattle.std.proofs.Common.{refl, ◌≡◌, ◌-◌, ◌∷◌, ◌++◌, [], length, slice_get, take, Some, sym, ◌∙◌, ap, subst}
use Rattle.theory.specs.Word.{Word}
use Rattle.theory.specs.Graph.{path}
use Rattle.coincidence.specs.Holding.{MeetAt}
use Rattle.coincidence.proofs.LiveLaws.{eq_true}
use Rattle.tc_hlt.specs.Tracing.{AreSides, IsAlong, IsGrown}
use Rattle.tc_hlt.proofs.DrawnLaws.{drawn_grown, drawn_meets}
use Rattle.tc_hlt.proofs.GrowLaws.{grown_whole, letter_of}
use Rattle.coincidence.proofs.DueLaws.{split_last}
use Rattle.coincidence.proofs.ReadLaws.{empty_leads, side_leads}
use Rattle.tc_hlt.proofs.rows.meet.Goals as goal

pub returns-then-len-eq0-clause-grown : goal.returns-then-len-eq0-clause-grown
returns-then-len-eq0-clause-grown c = λ node other here there. grown_whole _ c.args.table.now node c.args.at c.args.side.now c.requires.failed (empty_leads c.args.table.now.graph node c.args.at c.args.side.now (sym c.len.ensures ∙ c.if-len-eq0.true) here)

pub draw-requires-clause-letter : goal.draw-requires-clause-letter
draw-requires-clause-letter c = letter_of c.args.table.now.congruence.presentation.letters c.args.side.now c.before_last.result c.letter-last.result c.requires.over c.letter-last.ensures

pub returns-in-Some-clause-grown : goal.returns-in-Some-clause-grown
returns-in-Some-clause-grown c = λ node other here there.
    let at : slice_get c.args.side.now (length c.args.side.now - 1) ≡ Some c.letter-last.result = subst (λ i. slice_get c.args.side.now i ≡ Some c.letter-last.result) c.before_last.ensures c.letter-last.ensures in
    grown_whole _ c.args.table.now node c.in-Some.to c.args.side.now c.requires.failed
    (side_leads c.args.table.now.graph node c.args.at c.letter-last.result (length c.args.side.now) c.args.side.now refl (λ e. c.if-len-eq0.false (c.len.ensures ∙ e)) at here ∙ sym c.target.ensures ∙ c.in-Some.is)

pub returns-in-Some-clause-met : goal.returns-in-Some-clause-met
returns-in-Some-clause-met c = λ node other met here there.
    let at : slice_get c.args.side.now (length c.args.side.now - 1) ≡ Some c.letter-last.result = subst (λ i. slice_get c.args.side.now i ≡ Some c.letter-last.result) c.before_last.ensures c.letter-last.ensures in
    let to : path c.args.table.now.graph node c.args.side.now ≡ Some c.in-Some.to =
    side_leads c.args.table.now.graph node c.args.at c.letter-last.result (length c.args.side.now) c.args.side.now refl (λ e. c.if-len-eq0.false (c.len.ensures ∙ e)) at here ∙ sym c.target.ensures ∙ c.in-Some.is in
    (c.args.end, there, to ∙ ap (λ z. Some z) (eq_true c.in-Some.to c.args.end met))

pub returns-in_ok-draw-in-None-clause-met : goal.returns-in_ok-draw-in-None-clause-met
returns-in_ok-draw-in-None-clause-met c = λ node other _ here there.
    let at : slice_get c.args.side.now (length c.args.side.now - 1) ≡ Some c.letter-last.result = subst (λ i. slice_get c.args.side.now i ≡ Some c.letter-last.result) c.before_last.ensures c.letter-last.ensures in
    let is : c.args.side.now ≡ take (length c.args.side.now - 1) c.args.side.now ++ c.letter-last.result ∷ [] = split_last c.args.side.now (length c.args.side.now) c.letter-last.result refl (λ e. c.if-len-eq0.false (c.len.ensures ∙ e)) at in
    subst (λ (z : Word). MeetAt c.draw.new.self.graph node (other, z)) (sym is)
    (drawn_meets c.args.table.now c.draw.new.self node c.args.at c.letter-last.result c.args.end (take (length c.args.side.now - 1) c.args.side.now) other c.requires.table c.in_ok-draw-in-None.ensures.ok c.requires.at
    (letter_of c.args.table.now.congruence.presentation.letters c.args.side.now c.before_last.result c.letter-last.result c.requires.over c.letter-last.ensures) (sym c.target.ensures ∙ c.in-None.is) here there)

pub returns-in_ok-draw-in-None-clause-grown : goal.returns-in_ok-draw-in-None-clause-grown
returns-in_ok-draw-in-None-clause-grown c = λ node other here there.
    let at : slice_get c.args.side.now (length c.args.side.now - 1) ≡ Some c.letter-last.result = subst (λ i. slice_get c.args.side.now i ≡ Some c.letter-last.result) c.before_last.ensures c.letter-last.ensures in
    let is : c.args.side.now ≡ take (length c.args.side.now - 1) c.args.side.now ++ c.letter-last.result ∷ [] = split_last c.args.side.now (length c.args.side.now) c.letter-last.result refl (λ e. c.if-len-eq0.false (c.len.ensures ∙ e)) at in
    subst (λ (z : Word). IsGrown (IsAlong z) (AreSides other z) c.args.table.now c.draw.new.self node) (sym is)
    (drawn_grown c.args.table.now c.draw.new.self node c.args.at c.letter-last.result c.args.end (take (length c.args.side.now - 1) c.args.side.now) other c.requires.table c.in_ok-draw-in-None.ensures.ok c.requires.at
    (letter_of c.args.table.now.congruence.presentation.letters c.args.side.now c.before_last.result c.letter-last.result c.requires.over c.letter-last.ensures) (sym c.target.ensures ∙ c.in-None.is) here there)
