use Rattle.std.proofs.Common.{List, sym, subst}
use Rattle.theory.specs.Word.{Word}
use Rattle.coincidence.specs.Seen.{HoldWhereSeen}
use Rattle.coincidence.specs.Uses.{ArePeriods, AreUses, IsDueInSides}
use Rattle.coincidence.proofs.crossings.due_in_relations.Goals as goal

pub due_in_sides-requires-clause-uses : goal.due_in_sides-requires-clause-uses
due_in_sides-requires-clause-uses c = subst (λ (z : List (Word × Word)). AreUses c.args.second z c.uses.result.now) (sym c.relations.ensures) c.uses.ensures

pub due_in_sides-requires-clause-periods : goal.due_in_sides-requires-clause-periods
due_in_sides-requires-clause-periods c = subst (λ (z : List (Word × Word)). ArePeriods c.args.second z c.periods.result.now) (sym c.relations.ensures) c.periods.ensures

pub due_in_sides-requires-clause-seen : goal.due_in_sides-requires-clause-seen
due_in_sides-requires-clause-seen c = subst (λ (z : List (Word × Word)). HoldWhereSeen z c.args.edges.now.graph c.args.seen.now) (sym c.relations.ensures) c.requires.seen

pub returns-clause-due : goal.returns-clause-due
returns-clause-due c = subst (λ (z : List (Word × Word)). IsDueInSides c.args.second c.args.edges.now.graph z c.args.edge.now.node c.args.edge.now.letter c.due_in_sides.result) c.relations.ensures c.due_in_sides.ensures.due

pub returns-clause-seen : goal.returns-clause-seen
returns-clause-seen c = subst (λ (z : List (Word × Word)). HoldWhereSeen z c.args.edges.now.graph c.due_in_sides.new.seen) c.relations.ensures c.due_in_sides.ensures.seen
