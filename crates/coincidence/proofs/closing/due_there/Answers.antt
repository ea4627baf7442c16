use Rattle.std.proofs.Common.{subst, sym}
use Rattle.theory.specs.Graph.{IsClosedAt}
use Rattle.coincidence.specs.DueSpec.{IsDueAt}
use Rattle.coincidence.specs.Holding.{HoldBefore, HoldOnceDrawn}
use Rattle.coincidence.proofs.DrawLaws.{due_here}
use Rattle.coincidence.proofs.HoldLaws.{held_once}
use Rattle.coincidence.proofs.closing.due_there.Goals as goal

pub due_or_held-requires : goal.due_or_held-requires
due_or_held-requires c = subst (λ z. HoldBefore z c.args.edges.now.graph c.args.node c.args.held.now) (sym c.relations-relations.ensures) c.requires.held

pub returns-in-Nothing-due_or_held-clause-due : goal.returns-in-Nothing-due_or_held-clause-due
returns-in-Nothing-due_or_held-clause-due c =
    let root = subst (λ z. IsClosedAt z c.args.edges.now.graph 0) c.pairs.ensures c.in-Nothing.ensures in
    due_here c.args.congruence.now.congruence c.args.edges.now.graph c.args.live.now.items c.args.node c.due_from.result c.requires.live c.requires.node root
    (subst (λ z. IsDueAt c.args.edges.now.graph c.args.node z c.due_from.result) c.relations-relations.ensures c.due_from.ensures)

pub returns-in-Nothing-due_or_held-clause-held : goal.returns-in-Nothing-due_or_held-clause-held
returns-in-Nothing-due_or_held-clause-held c =
    held_once c.args.congruence.now.congruence.presentation.relations c.args.edges.now.graph c.args.node c.due_or_held.new.held c.due_from.result
    (subst (λ z. HoldBefore z c.args.edges.now.graph c.args.node c.due_or_held.new.held) c.relations-relations.ensures c.in-Nothing-due_or_held.ensures.held)

pub returns-in_default-due_or_held : goal.returns-in_default-due_or_held
returns-in_default-due_or_held c =
    let root = subst (λ z. IsClosedAt z c.args.edges.now.graph 0) c.pairs.ensures c.in-Nothing.ensures in
    record {
      due = due_here c.args.congruence.now.congruence c.args.edges.now.graph c.args.live.now.items c.args.node c.due_or_held.result c.requires.live c.requires.node root
          (subst (λ z. IsDueAt c.args.edges.now.graph c.args.node z c.due_or_held.result) c.relations-relations.ensures (c.due_or_held.ensures.due (λ e. c.in_default-due_or_held.not-Nothing e)));
      held = subst (λ z. HoldOnceDrawn z c.args.edges.now.graph c.args.node c.due_or_held.result c.due_or_held.new.held) c.relations-relations.ensures c.due_or_held.ensures.held;
    }
