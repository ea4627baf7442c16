use Rattle.std.proofs.Common.{◌≡◌, sym, subst, ◌∙◌, ap}
use Rattle.theory.specs.Congruence.{Presentation, AreElements, reversed}
use Rattle.theory.specs.Word.{reversed_pairs}
use Rattle.theory.proofs.KindLaws.{backwards_well_formed}
use Rattle.presentation.specs.Presented.{Presented}
use Rattle.congruence.proofs.lanes.backwards.Goals as goal

pub new-requires : goal.new-requires
new-requires c =
    let p : Presentation = c.args.congruence.now.congruence.presentation in
    let well = (backwards_well_formed c.args.congruence.now.congruence c.presentation-presentation.ensures.posed.well_formed).pairs in
    let relations : c.in_ok-relations.relations.presentation ≡ reversed p =
    ap (λ (q : Presented). q.presentation) c.in_ok-relations.ensures ∙ ap reversed c.presentation-presentation.ensures.presentation in
    let pairs : c.in_ok-turned.turned ≡ reversed_pairs c.args.congruence.now.congruence.pairs = c.in_ok-turned.ensures ∙ ap reversed_pairs c.pairs-pairs.ensures in
    subst (λ (q : Presentation). AreElements q.is_monoid q.letters c.in_ok-turned.turned) (sym relations) (subst (AreElements p.is_monoid p.letters) (sym pairs) well)
