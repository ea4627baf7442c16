use Rattle.std.proofs.Common.{refl, sym, ap, ◌∙◌, subst}
use Rattle.std.specs.Option.{MatchOption}
use Rattle.theory.specs.Graph.{IsGraph}
use Rattle.coincidence.specs.Kept.{IsKept}
use Rattle.coincidence.specs.Marks.{AllMarked, IsFirstUnmarked}
use Rattle.coincidence.specs.Table.{CosetTable}
use Rattle.coincidence.specs.declared.cosets.Cosets.{Cosets}
use Rattle.coincidence.proofs.HeldLaws.{failed_held, ordered_whole, seen, still_held}
use Rattle.coincidence.proofs.tables.Table.first_unprocessed.Goals as goal

pub invariant_of-self-in-Err : goal.invariant_of-self-in-Err
invariant_of-self-in-Err c = rw (c.fail.ensures) (failed_held _ _ c.self.invariant.table.congruence)

pub returns-in-Err-clause-table : goal.returns-in-Err-clause-table
returns-in-Err-clause-table c = rw (c.fail.ensures) ((failed_held c.self.inside.congruence.congruence c.self.inside.cosets c.self.invariant.table.congruence).table)

pub first_unmarked-requires-clause-graph : goal.first_unmarked-requires-clause-graph
first_unmarked-requires-clause-graph c = subst (λ k. IsGraph k c.self.inside.cosets.edges.graph) (sym (c.letters-letters.ensures.letters ∙ ap (λ z. z.letters) c.presentation.ensures.presentation)) (c.self.invariant.whole c.if-self.false).graph

pub first_unmarked-requires-clause-kept : goal.first_unmarked-requires-clause-kept
first_unmarked-requires-clause-kept c = subst (λ k. IsKept k c.self.inside.cosets.edges.graph c.self.inside.cosets.marked.items c.self.inside.cosets.order) (sym (c.letters-letters.ensures.letters ∙ ap (λ z. z.letters) c.presentation.ensures.presentation)) (c.self.invariant.whole c.if-self.false).order

pub invariant_of-self : goal.invariant_of-self
invariant_of-self c =
    let was = c.self.invariant.whole c.if-self.false in
    let new : Cosets = record c.self.inside.cosets { order = c.first_unmarked.new.self } in
    let letters = c.letters-letters.ensures.letters ∙ ap (λ z. z.letters) c.presentation.ensures.presentation in
    let kept : IsKept c.self.inside.congruence.congruence.presentation.letters c.self.inside.cosets.edges.graph c.self.inside.cosets.marked.items c.first_unmarked.new.self =
    subst (λ k. IsKept k c.self.inside.cosets.edges.graph c.self.inside.cosets.marked.items c.first_unmarked.new.self) letters (c.in-Ok.ensures.kept) in
    still_held c.self.inside.congruence.congruence c.self.inside.cosets new c.self.inside.failed c.if-self.false c.self.invariant (ordered_whole c.self.inside.congruence.congruence c.self.inside.cosets new refl was kept) refl

pub returns-in-Ok-clause-first : goal.returns-in-Ok-clause-first
returns-in-Ok-clause-first c =
    subst (λ (t : CosetTable). MatchOption c.in-Ok.found (AllMarked t.graph t.marked) (IsFirstUnmarked t.graph t.marked)) (seen c.self.inside.congruence.congruence c.self.inside.cosets c.self.inside.failed c.args.self.now c.if-self.false c.self.view_is) c.in-Ok.ensures.first
