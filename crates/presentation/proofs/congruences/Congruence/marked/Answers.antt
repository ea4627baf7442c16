use Rattle.std.proofs.Common.{◌≡◌, ◌≢◌, suc, List, ◌++◌, refl, sym, subst, ap, ◌∙◌}
use Rattle.theory.specs.Word.{Word}
use Rattle.theory.specs.Congruence.{Presentation, AreElements, IsWellFormed}
use Rattle.theory.specs.Marked.{marked_pairs}
use Rattle.theory.specs.declared.Kind.{Kind}
use Rattle.theory.specs.declared.Kind.TheVariants.{TwoSided, Right, Left}
use Rattle.theory.proofs.MarkedLaws.{marked_well_formed}
use Rattle.presentation.specs.Presented.{Posed}
use Rattle.presentation.proofs.congruences.Congruence.marked.Goals as goal

-- the sides of relations and marked pairs are elements
marked_sides : (p : Presentation) (kind : Kind) (pairs : List (Word × Word)) → kind ≢ TwoSided
    → IsWellFormed (record { presentation = p; kind = kind; pairs = pairs })
    → AreElements p.is_monoid (suc p.letters) (p.relations ++ marked_pairs kind p.letters pairs)
marked_sides p TwoSided pairs one well = absurd (one refl)
marked_sides p Right pairs one well = (marked_well_formed (record { presentation = p; kind = Right; pairs = pairs }) well).relations
marked_sides p Left pairs one well = (marked_well_formed (record { presentation = p; kind = Left; pairs = pairs }) well).relations

pub with_marker-requires-clause-elements : goal.with_marker-requires-clause-elements
with_marker-requires-clause-elements c =
    let p : Presentation = c.self.inside.presentation.presentation in
    let kind : Kind = c.self.inside.kind in
    let one : kind ≢ TwoSided = λ h. c.requires.one_sided (sym (ap (λ (v : Posed). v.congruence.kind) c.self.view_is) ∙ h) in
    let is : c.in_ok-pairs.pairs ≡ marked_pairs kind p.letters c.self.inside.pairs = c.in_ok-pairs.ensures ∙ ap (λ m. marked_pairs kind m c.self.inside.pairs) (c.new-marker.ensures ∙ c.letters.ensures.letters) in
    subst (λ (pairs : List (Word × Word)). AreElements p.is_monoid (suc p.letters) (p.relations ++ pairs)) (sym is)
    (marked_sides p kind c.self.inside.pairs one c.self.invariant.well_formed)
