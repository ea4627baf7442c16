use Rattle.std.proofs.Common.{◌≡◌, ◌∙◌, ap, subst, ℕ, List}
use Rattle.theory.specs.Word.{Word}
use Rattle.theory.specs.Congruence.{Congruence, Presentation}
use Rattle.theory.specs.Hlt.{IsTraced, IsExtension, IsSide}
use Rattle.coincidence.specs.Holding.{HoldBefore}
use Rattle.tc_hlt.specs.Tracing.{AreSidesAny, IsGrown, NoDrawing}
use Rattle.tc_hlt.proofs.GrowLaws.{row_grown, sides_over}
use Rattle.tc_hlt.proofs.RelationLaws.{held_kept}
use Rattle.tc_hlt.proofs.rows.trace_row.Goals as goal

pub trace_sides-requires-clause-over : goal.trace_sides-requires-clause-over
trace_sides-requires-clause-over c =
    let p : Presentation = c.args.table.now.congruence.presentation in
    let relations : c.relations.result.now ≡ p.relations =
    c.relations.ensures.relations ∙ ap (λ (p : Presentation). p.relations) (c.presentation-presentation.ensures.presentation ∙ ap (λ (k : Congruence). k.presentation) c.requires.congruence) in
    λ side is. sides_over p.is_monoid p.letters p.relations c.requires.table.congruence.relations side (subst (λ (rs : List (Word × Word)). IsSide rs side) relations is)

pub trace_sides-requires-clause-relations : goal.trace_sides-requires-clause-relations
trace_sides-requires-clause-relations c =
    c.relations.ensures.relations ∙ ap (λ (p : Presentation). p.relations) (c.presentation-presentation.ensures.presentation ∙ ap (λ (k : Congruence). k.presentation) c.requires.congruence)

pub returns-clause-grown : goal.returns-clause-grown
returns-clause-grown c =
    let presented : c.presentation-presentation.result.now.presentation ≡ c.args.table.now.congruence.presentation =
    c.presentation-presentation.ensures.presentation ∙ ap (λ (k : Congruence). k.presentation) c.requires.congruence in
    let letters : c.letters.result ≡ c.args.table.now.congruence.presentation.letters = c.letters.ensures.letters ∙ ap (λ (p : Presentation). p.letters) presented in
    let relations : c.relations.result.now ≡ c.args.table.now.congruence.presentation.relations =
    c.relations.ensures.relations ∙ ap (λ (p : Presentation). p.relations) presented in
    row_grown c.args.table.now.congruence c.args.table.now c.trace_sides.new.table c.define_letters.new.table c.args.node
    (subst (λ (rs : List (Word × Word)). IsGrown (IsTraced rs) (AreSidesAny rs) c.args.table.now c.trace_sides.new.table c.args.node) relations c.in_ok-held.ensures.grown)
    (subst (λ (k : ℕ). IsGrown (IsExtension k) NoDrawing c.trace_sides.new.table c.define_letters.new.table c.args.node) letters c.in_ok-define_letters.ensures.grown)

pub returns-clause-held : goal.returns-clause-held
returns-clause-held c =
    let relations : c.relations.result.now ≡ c.args.table.now.congruence.presentation.relations =
    c.relations.ensures.relations ∙ ap (λ (p : Presentation). p.relations) (c.presentation-presentation.ensures.presentation ∙ ap (λ (k : Congruence). k.presentation) c.requires.congruence) in
    held_kept (IsExtension c.letters.result) NoDrawing c.trace_sides.new.table c.define_letters.new.table c.args.node c.args.node c.in_ok-define_letters.ensures.grown c.args.table.now.congruence.presentation.relations c.in_ok-held.held
    (subst (λ (rs : List (Word × Word)). HoldBefore rs c.trace_sides.new.table.graph c.args.node c.in_ok-held.held) relations c.in_ok-held.ensures.held)
