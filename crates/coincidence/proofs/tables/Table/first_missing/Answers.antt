use Rattle.std.proofs.Common.{ℕ, refl, sym, ap, ◌∙◌, subst}
use Rattle.std.specs.Option.{MatchOption}
use Rattle.theory.specs.Facts.{AllDefined}
use Rattle.theory.specs.Graph.{SameEnd, IsGraph}
use Rattle.word_graph.specs.Walk.{IsFirstMissing}
use Rattle.coincidence.specs.Kept.{IsKept}
use Rattle.coincidence.specs.Table.{CosetTable}
use Rattle.coincidence.specs.declared.cosets.Cosets.{Cosets}
use Rattle.coincidence.proofs.HeldLaws.{failed_held, ordered_whole, seen, still_held}
use Rattle.coincidence.proofs.tables.Table.first_missing.Goals as goal

pub invariant_of-self-in-Err : goal.invariant_of-self-in-Err
invariant_of-self-in-Err c = rw (c.fail.ensures) (failed_held _ _ c.self.invariant.table.congruence)

pub returns-in-Err-clause-table : goal.returns-in-Err-clause-table
returns-in-Err-clause-table c = rw (c.fail.ensures) ((failed_held c.self.inside.congruence.congruence c.self.inside.cosets c.self.invariant.table.congruence).table)

pub first_missing-requires-clause-graph : goal.first_missing-requires-clause-graph
first_missing-requires-clause-graph c = subst (λ k. IsGraph k c.self.inside.cosets.edges.graph) (sym (c.letters-letters.ensures.letters ∙ ap (λ z. z.letters) c.presentation.ensures.presentation)) (c.self.invariant.whole c.if-self.false).graph

pub first_missing-requires-clause-kept : goal.first_missing-requires-clause-kept
first_missing-requires-clause-kept c = (c.self.inside.cosets.marked.items, subst (λ k. IsKept k c.self.inside.cosets.edges.graph c.self.inside.cosets.marked.items c.self.inside.cosets.order) (sym (c.letters-letters.ensures.letters ∙ ap (λ z. z.letters) c.presentation.ensures.presentation)) (c.self.invariant.whole c.if-self.false).order)

pub invariant_of-self : goal.invariant_of-self
invariant_of-self c =
    let was = c.self.invariant.whole c.if-self.false in
    let new : Cosets = record c.self.inside.cosets { order = c.first_missing.new.self } in
    let letters = c.letters-letters.ensures.letters ∙ ap (λ z. z.letters) c.presentation.ensures.presentation in
    let kept : IsKept c.self.inside.congruence.congruence.presentation.letters c.self.inside.cosets.edges.graph c.self.inside.cosets.marked.items c.first_missing.new.self =
    subst (λ k. IsKept k c.self.inside.cosets.edges.graph c.self.inside.cosets.marked.items c.first_missing.new.self) letters (c.in-Ok.ensures.kept c.self.inside.cosets.marked.items (subst (λ k. IsKept k c.self.inside.cosets.edges.graph c.self.inside.cosets.marked.items c.self.inside.cosets.order) (sym letters) was.order)) in
    still_held c.self.inside.congruence.congruence c.self.inside.cosets new c.self.inside.failed c.if-self.false c.self.invariant (ordered_whole c.self.inside.congruence.congruence c.self.inside.cosets new refl was kept) refl

pub returns-in-Ok-clause-first : goal.returns-in-Ok-clause-first
returns-in-Ok-clause-first c =
    subst (λ (t : CosetTable). MatchOption c.in-Ok.found (AllDefined t.congruence.presentation.letters (SameEnd t.graph)) (λ p. IsFirstMissing t.congruence.presentation.letters t.graph p.0 p.1)) (seen c.self.inside.congruence.congruence c.self.inside.cosets c.self.inside.failed c.args.self.now c.if-self.false c.self.view_is)
    (subst (λ (k : ℕ). MatchOption c.in-Ok.found (AllDefined k (SameEnd c.self.inside.cosets.edges.graph)) (λ p. IsFirstMissing k c.self.inside.cosets.edges.graph p.0 p.1)) (c.letters-letters.ensures.letters ∙ ap (λ z. z.letters) c.presentation.ensures.presentation) c.in-Ok.ensures.first)
