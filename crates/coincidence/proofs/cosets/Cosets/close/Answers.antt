use Rattle.std.proofs.Common.{[], refl, ap, arith, subst}
use Rattle.std.specs.Option.{ForSome}
use Rattle.word_graph.specs.Edges.{with_edge}
use Rattle.coincidence.specs.DueSpec.{IsDueIn}
use Rattle.coincidence.specs.Holding.{HoldOnceDrawn}
use Rattle.coincidence.specs.declared.cosets.Cosets.{Cosets}
use Rattle.coincidence.specs.declared.due.Due.{Due}
use Rattle.coincidence.proofs.CloseLaws.{within_end}
use Rattle.coincidence.proofs.ClosingLaws.{drawing_start, drawing_dropped, drawing_edge, drawing_gathered, drawing_holds, drawing_join, inside, left_joined, placed, placed_on}
use Rattle.coincidence.proofs.FoldLaws.{edged_with}
use Rattle.coincidence.proofs.HoldLaws.{place_held_edged, place_held_folded}
use Rattle.coincidence.proofs.LiveLaws.{left_edge, left_in}
use Rattle.coincidence.proofs.StepLaws.{join_live}
use Rattle.coincidence.proofs.cosets.Cosets.close.Goals as goal

pub loop-node-init : goal.loop-node-init
loop-node-init c = record {
  drawing = drawing_start c.args.congruence.now.congruence c.args.self.now c.args.reach.at c.requires.whole c.requires.reach.at;
  held = c.requires.reach.held;
}

pub next_due-requires-clause-at : goal.next_due-requires-clause-at
next_due-requires-clause-at c = placed_on c.args.congruence.now.congruence c.args.self.now c.loop-node.self c.args.reach.at c.loop-node.place c.requires.whole c.requires.reach.at c.loop-node.invariant.drawing

pub next_due-requires-clause-hold : goal.next_due-requires-clause-hold
next_due-requires-clause-hold c = λ marked.
    drawing_holds c.args.congruence.now.congruence c.args.self.now c.loop-node.self c.args.reach.at c.loop-node.place c.requires.whole c.requires.reach.at c.loop-node.invariant.drawing c.args.congruence.now.congruence.presentation.relations (c.requires.reach.hold marked)

pub returns-in-Nothing-clause-relates : goal.returns-in-Nothing-clause-relates
returns-in-Nothing-clause-relates c =
    let drawing = drawing_dropped c.args.congruence.now.congruence c.args.self.now c.loop-node.self c.args.reach.at c.loop-node.place c.requires.whole c.requires.reach.at c.loop-node.invariant.drawing c.next_due.new.self c.in_ok-next_due.ensures.same c.in_ok-next_due.ensures.whole in
    within_end c.args.congruence.now.congruence c.args.self.now.edges.graph c.args.reach.at c.next_due.new.self.edges.graph c.loop-node.place (placed c.args.congruence.now.congruence c.args.self.now c.next_due.new.self c.args.reach.at c.loop-node.place c.requires.whole c.requires.reach.at drawing) drawing.within
    (λ w n here h. (subst (λ (d : Due). IsDueIn c.args.congruence.now.congruence c.next_due.new.self.edges.graph c.next_due.new.self.live.items c.loop-node.place d) c.in-Nothing.is c.in_ok-next_due.ensures.due).0 n here (drawing.whole.lives.lives n (w, h))) (subst (λ (d : Due). IsDueIn c.args.congruence.now.congruence c.next_due.new.self.edges.graph c.next_due.new.self.live.items c.loop-node.place d) c.in-Nothing.is c.in_ok-next_due.ensures.due).1

pub returns-in-Nothing-clause-gathered : goal.returns-in-Nothing-clause-gathered
returns-in-Nothing-clause-gathered c =
    let drawing = drawing_dropped c.args.congruence.now.congruence c.args.self.now c.loop-node.self c.args.reach.at c.loop-node.place c.requires.whole c.requires.reach.at c.loop-node.invariant.drawing c.next_due.new.self c.in_ok-next_due.ensures.same c.in_ok-next_due.ensures.whole in
    drawing_gathered c.args.congruence.now.congruence c.args.self.now c.next_due.new.self c.args.reach.at c.loop-node.place c.requires.whole c.requires.reach.at drawing

pub set_edge-requires-clause-node : goal.set_edge-requires-clause-node
set_edge-requires-clause-node c =
    let drawing = drawing_dropped c.args.congruence.now.congruence c.args.self.now c.loop-node.self c.args.reach.at c.loop-node.place c.requires.whole c.requires.reach.at c.loop-node.invariant.drawing c.next_due.new.self c.in_ok-next_due.ensures.same c.in_ok-next_due.ensures.whole in
    (inside c.args.congruence.now.congruence c.args.self.now c.next_due.new.self c.args.reach.at c.loop-node.place c.requires.whole c.requires.reach.at drawing c.next_due.new.self c.in-Edge.node c.in-Edge.letter c.in-Edge.to (subst (λ (d : Due). IsDueIn c.args.congruence.now.congruence c.next_due.new.self.edges.graph c.next_due.new.self.live.items c.loop-node.place d) c.in-Edge.is c.in_ok-next_due.ensures.due).0).0

pub set_edge-requires-clause-letter : goal.set_edge-requires-clause-letter
set_edge-requires-clause-letter c = λ k is.
    let drawing = drawing_dropped c.args.congruence.now.congruence c.args.self.now c.loop-node.self c.args.reach.at c.loop-node.place c.requires.whole c.requires.reach.at c.loop-node.invariant.drawing c.next_due.new.self c.in_ok-next_due.ensures.same c.in_ok-next_due.ensures.whole in
    let here = inside c.args.congruence.now.congruence c.args.self.now c.next_due.new.self c.args.reach.at c.loop-node.place c.requires.whole c.requires.reach.at drawing c.next_due.new.self c.in-Edge.node c.in-Edge.letter c.in-Edge.to (subst (λ (d : Due). IsDueIn c.args.congruence.now.congruence c.next_due.new.self.edges.graph c.next_due.new.self.live.items c.loop-node.place d) c.in-Edge.is c.in_ok-next_due.ensures.due).0 in
    omega (arith, here.1, is.graph.width c.in-Edge.node [] here.0)

pub set_edge-requires-clause-to : goal.set_edge-requires-clause-to
set_edge-requires-clause-to c =
    let drawing = drawing_dropped c.args.congruence.now.congruence c.args.self.now c.loop-node.self c.args.reach.at c.loop-node.place c.requires.whole c.requires.reach.at c.loop-node.invariant.drawing c.next_due.new.self c.in_ok-next_due.ensures.same c.in_ok-next_due.ensures.whole in
    (inside c.args.congruence.now.congruence c.args.self.now c.next_due.new.self c.args.reach.at c.loop-node.place c.requires.whole c.requires.reach.at drawing c.next_due.new.self c.in-Edge.node c.in-Edge.letter c.in-Edge.to (subst (λ (d : Due). IsDueIn c.args.congruence.now.congruence c.next_due.new.self.edges.graph c.next_due.new.self.live.items c.loop-node.place d) c.in-Edge.is c.in_ok-next_due.ensures.due).0).2

pub loop-node-smaller-in-Edge : goal.loop-node-smaller-in-Edge
loop-node-smaller-in-Edge c =
    let drawing = drawing_dropped c.args.congruence.now.congruence c.args.self.now c.loop-node.self c.args.reach.at c.loop-node.place c.requires.whole c.requires.reach.at c.loop-node.invariant.drawing c.next_due.new.self c.in_ok-next_due.ensures.same c.in_ok-next_due.ensures.whole in
    let here = inside c.args.congruence.now.congruence c.args.self.now c.next_due.new.self c.args.reach.at c.loop-node.place c.requires.whole c.requires.reach.at drawing c.next_due.new.self c.in-Edge.node c.in-Edge.letter c.in-Edge.to (subst (λ (d : Due). IsDueIn c.args.congruence.now.congruence c.next_due.new.self.edges.graph c.next_due.new.self.live.items c.loop-node.place d) c.in-Edge.is c.in_ok-next_due.ensures.due).0 in
    let less = left_edge c.args.congruence.now.congruence.presentation.letters c.next_due.new.self.edges.graph c.next_due.new.self.live.items c.in-Edge.node c.in-Edge.letter c.in-Edge.to here.0 here.1 (subst (λ (d : Due). IsDueIn c.args.congruence.now.congruence c.next_due.new.self.edges.graph c.next_due.new.self.live.items c.loop-node.place d) c.in-Edge.is c.in_ok-next_due.ensures.due).1 in
    let same = ap (λ (z : Cosets). left_in c.args.congruence.now.congruence.presentation.letters z.edges.graph z.live.items) c.in_ok-next_due.ensures.same in
    rw (c.set_edge.ensures) (omega (arith, less, same))

pub loop-node-preserved-in-Edge : goal.loop-node-preserved-in-Edge
loop-node-preserved-in-Edge c =
    let new : Cosets = record c.next_due.new.self { edges = c.set_edge.new.self; pending = c.push_edge.new.self } in
    let drawing = drawing_dropped c.args.congruence.now.congruence c.args.self.now c.loop-node.self c.args.reach.at c.loop-node.place c.requires.whole c.requires.reach.at c.loop-node.invariant.drawing c.next_due.new.self c.in_ok-next_due.ensures.same c.in_ok-next_due.ensures.whole in
    let here = inside c.args.congruence.now.congruence c.args.self.now c.next_due.new.self c.args.reach.at c.loop-node.place c.requires.whole c.requires.reach.at drawing c.next_due.new.self c.in-Edge.node c.in-Edge.letter c.in-Edge.to (subst (λ (d : Due). IsDueIn c.args.congruence.now.congruence c.next_due.new.self.edges.graph c.next_due.new.self.live.items c.loop-node.place d) c.in-Edge.is c.in_ok-next_due.ensures.due).0 in
    record {
      drawing = drawing_edge c.args.congruence.now.congruence c.args.self.now c.next_due.new.self c.args.reach.at c.loop-node.place c.requires.whole c.requires.reach.at drawing new c.in-Edge.node c.in-Edge.letter c.in-Edge.to (subst (λ (d : Due). IsDueIn c.args.congruence.now.congruence c.next_due.new.self.edges.graph c.next_due.new.self.live.items c.loop-node.place d) c.in-Edge.is c.in_ok-next_due.ensures.due).0 (subst (λ (d : Due). IsDueIn c.args.congruence.now.congruence c.next_due.new.self.edges.graph c.next_due.new.self.live.items c.loop-node.place d) c.in-Edge.is c.in_ok-next_due.ensures.due).1 c.set_edge.ensures refl c.in_ok-push_edge-in-Edge.ensures;
      held = rw (c.set_edge.ensures)
          (place_held_edged c.args.congruence.now.congruence.presentation.relations c.next_due.new.self.edges.graph (with_edge c.next_due.new.self.edges.graph c.in-Edge.node c.in-Edge.letter c.in-Edge.to) c.in-Edge.node c.in-Edge.letter c.in-Edge.to c.next_due.new.held c.loop-node.place
          (edged_with c.next_due.new.self.edges.graph c.in-Edge.node c.in-Edge.letter c.in-Edge.to here.0 here.1 (subst (λ (d : Due). IsDueIn c.args.congruence.now.congruence c.next_due.new.self.edges.graph c.next_due.new.self.live.items c.loop-node.place d) c.in-Edge.is c.in_ok-next_due.ensures.due).1) (subst (λ (d : Due). ForSome c.loop-node.place (λ n. HoldOnceDrawn c.args.congruence.now.congruence.presentation.relations c.next_due.new.self.edges.graph n d c.next_due.new.held)) c.in-Edge.is c.in_ok-next_due.ensures.held));
    }

pub merge-requires-clause-whole : goal.merge-requires-clause-whole
merge-requires-clause-whole c = (c.args.congruence.now.congruence, c.in_ok-next_due.ensures.whole)

pub merge-requires-clause-x : goal.merge-requires-clause-x
merge-requires-clause-x c = (join_live c.args.congruence.now.congruence c.next_due.new.self.edges.graph c.loop-node.place c.next_due.new.self.live.items c.in-Join.field-0 c.in-Join.field-1 c.in-Join.y c.in-Join.x c.in_ok-next_due.ensures.whole.lives (subst (λ (d : Due). IsDueIn c.args.congruence.now.congruence c.next_due.new.self.edges.graph c.next_due.new.self.live.items c.loop-node.place d) c.in-Join.is c.in_ok-next_due.ensures.due).0 (subst (λ (d : Due). IsDueIn c.args.congruence.now.congruence c.next_due.new.self.edges.graph c.next_due.new.self.live.items c.loop-node.place d) c.in-Join.is c.in_ok-next_due.ensures.due).1).0

pub merge-requires-clause-y : goal.merge-requires-clause-y
merge-requires-clause-y c = (join_live c.args.congruence.now.congruence c.next_due.new.self.edges.graph c.loop-node.place c.next_due.new.self.live.items c.in-Join.field-0 c.in-Join.field-1 c.in-Join.y c.in-Join.x c.in_ok-next_due.ensures.whole.lives (subst (λ (d : Due). IsDueIn c.args.congruence.now.congruence c.next_due.new.self.edges.graph c.next_due.new.self.live.items c.loop-node.place d) c.in-Join.is c.in_ok-next_due.ensures.due).0 (subst (λ (d : Due). IsDueIn c.args.congruence.now.congruence c.next_due.new.self.edges.graph c.next_due.new.self.live.items c.loop-node.place d) c.in-Join.is c.in_ok-next_due.ensures.due).1).1

pub merge-requires-clause-at : goal.merge-requires-clause-at
merge-requires-clause-at c =
    let drawing = drawing_dropped c.args.congruence.now.congruence c.args.self.now c.loop-node.self c.args.reach.at c.loop-node.place c.requires.whole c.requires.reach.at c.loop-node.invariant.drawing c.next_due.new.self c.in_ok-next_due.ensures.same c.in_ok-next_due.ensures.whole in
    placed_on c.args.congruence.now.congruence c.args.self.now c.next_due.new.self c.args.reach.at c.loop-node.place c.requires.whole c.requires.reach.at drawing

pub loop-node-smaller : goal.loop-node-smaller
loop-node-smaller c =
    let drawing = drawing_dropped c.args.congruence.now.congruence c.args.self.now c.loop-node.self c.args.reach.at c.loop-node.place c.requires.whole c.requires.reach.at c.loop-node.invariant.drawing c.next_due.new.self c.in_ok-next_due.ensures.same c.in_ok-next_due.ensures.whole in
    let on = join_live c.args.congruence.now.congruence c.next_due.new.self.edges.graph c.loop-node.place c.next_due.new.self.live.items c.in-Join.field-0 c.in-Join.field-1 c.in-Join.y c.in-Join.x c.in_ok-next_due.ensures.whole.lives (subst (λ (d : Due). IsDueIn c.args.congruence.now.congruence c.next_due.new.self.edges.graph c.next_due.new.self.live.items c.loop-node.place d) c.in-Join.is c.in_ok-next_due.ensures.due).0 (subst (λ (d : Due). IsDueIn c.args.congruence.now.congruence c.next_due.new.self.edges.graph c.next_due.new.self.live.items c.loop-node.place d) c.in-Join.is c.in_ok-next_due.ensures.due).1 in
    let less = left_joined c.args.congruence.now.congruence c.args.self.now c.next_due.new.self c.args.reach.at c.loop-node.place c.requires.whole c.requires.reach.at drawing c.merge.new.self c.in-Join.field-0 c.in-Join.field-1 c.in-Join.y (subst (λ (d : Due). IsDueIn c.args.congruence.now.congruence c.next_due.new.self.edges.graph c.next_due.new.self.live.items c.loop-node.place d) c.in-Join.is c.in_ok-next_due.ensures.due).0 c.in-Join.x c.in_ok-place-in-Join.place (subst (λ (d : Due). IsDueIn c.args.congruence.now.congruence c.next_due.new.self.edges.graph c.next_due.new.self.live.items c.loop-node.place d) c.in-Join.is c.in_ok-next_due.ensures.due).1 on.0 on.1 c.in_ok-place-in-Join.ensures (subst (λ (d : Due). IsDueIn c.args.congruence.now.congruence c.next_due.new.self.edges.graph c.next_due.new.self.live.items c.loop-node.place d) c.in-Join.is c.in_ok-next_due.ensures.due).2 in
    let same = ap (λ (z : Cosets). left_in c.args.congruence.now.congruence.presentation.letters z.edges.graph z.live.items) c.in_ok-next_due.ensures.same in
    omega (arith, less, same)

pub loop-node-preserved : goal.loop-node-preserved
loop-node-preserved c =
    let drawing = drawing_dropped c.args.congruence.now.congruence c.args.self.now c.loop-node.self c.args.reach.at c.loop-node.place c.requires.whole c.requires.reach.at c.loop-node.invariant.drawing c.next_due.new.self c.in_ok-next_due.ensures.same c.in_ok-next_due.ensures.whole in
    let on = join_live c.args.congruence.now.congruence c.next_due.new.self.edges.graph c.loop-node.place c.next_due.new.self.live.items c.in-Join.field-0 c.in-Join.field-1 c.in-Join.y c.in-Join.x c.in_ok-next_due.ensures.whole.lives (subst (λ (d : Due). IsDueIn c.args.congruence.now.congruence c.next_due.new.self.edges.graph c.next_due.new.self.live.items c.loop-node.place d) c.in-Join.is c.in_ok-next_due.ensures.due).0 (subst (λ (d : Due). IsDueIn c.args.congruence.now.congruence c.next_due.new.self.edges.graph c.next_due.new.self.live.items c.loop-node.place d) c.in-Join.is c.in_ok-next_due.ensures.due).1 in
    record {
      drawing = drawing_join c.args.congruence.now.congruence c.args.self.now c.next_due.new.self c.args.reach.at c.loop-node.place c.requires.whole c.requires.reach.at drawing c.merge.new.self c.in-Join.field-0 c.in-Join.field-1 c.in-Join.y (subst (λ (d : Due). IsDueIn c.args.congruence.now.congruence c.next_due.new.self.edges.graph c.next_due.new.self.live.items c.loop-node.place d) c.in-Join.is c.in_ok-next_due.ensures.due).0 c.in-Join.x c.in_ok-place-in-Join.place (subst (λ (d : Due). IsDueIn c.args.congruence.now.congruence c.next_due.new.self.edges.graph c.next_due.new.self.live.items c.loop-node.place d) c.in-Join.is c.in_ok-next_due.ensures.due).1 on.0 on.1 c.in_ok-place-in-Join.ensures;
      held = place_held_folded c.args.congruence.now.congruence.presentation.relations c.next_due.new.self.edges.graph c.in_ok-place-in-Join.ensures.class c.merge.new.self.edges.graph c.in-Join.field-0 c.in-Join.field-1 c.in-Join.y c.in-Join.x c.next_due.new.held c.loop-node.place c.in_ok-place-in-Join.place c.in_ok-place-in-Join.ensures.merging.folded c.in_ok-place-in-Join.ensures.merging.one c.in_ok-place-in-Join.ensures.gone (subst (λ (d : Due). ForSome c.loop-node.place (λ n. HoldOnceDrawn c.args.congruence.now.congruence.presentation.relations c.next_due.new.self.edges.graph n d c.next_due.new.held)) c.in-Join.is c.in_ok-next_due.ensures.held);
    }
