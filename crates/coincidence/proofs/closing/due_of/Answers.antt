use Rattle.std.proofs.Common.{◌≡◌, ◌<◌, true, false, length, subst, sym, ◌∙◌, arith, None, Some}
use Rattle.std.proofs.lemmas.List.{get_or_read}
use Rattle.coincidence.specs.Live.{IsOn}
use Rattle.coincidence.specs.Drawing.{IsDueOf}
use Rattle.coincidence.specs.declared.due.Due.TheVariants.{Nothing}
use Rattle.coincidence.specs.declared.pending.Pending.{Pending}
use Rattle.coincidence.proofs.MarkLaws.{on_within}
use Rattle.coincidence.proofs.DrawLaws.{drop_node, drop_none, due_of_node, due_of_edge}
use Rattle.coincidence.proofs.closing.due_of.Goals as goal

pub returns-then-len-node-clause-due : goal.returns-then-len-node-clause-due
returns-then-len-node-clause-due c =
    subst (λ (e : Pending). IsDueOf c.args.congruence.now.congruence.presentation.relations c.args.edges.now.graph c.args.live.now.items e Nothing) (sym c.in-NewNode.is)
    (drop_node c.args.congruence.now.congruence.presentation.relations c.args.edges.now.graph c.args.live.now.items c.in-NewNode.node (λ on. absurd (omega (arith, on_within c.args.live.now.items c.in-NewNode.node on, c.if-len-node.true, c.len.ensures))))

pub returns-then-not-index-clause-due : goal.returns-then-not-index-clause-due
returns-then-not-index-clause-due c =
    subst (λ (e : Pending). IsDueOf c.args.congruence.now.congruence.presentation.relations c.args.edges.now.graph c.args.live.now.items e Nothing) (sym c.in-NewNode.is)
    (drop_node c.args.congruence.now.congruence.presentation.relations c.args.edges.now.graph c.args.live.now.items c.in-NewNode.node (λ on.
    let is : c.index.result.now ≡ true = get_or_read c.args.live.now.items c.in-NewNode.node c.index.result.now (on_within c.args.live.now.items c.in-NewNode.node on) c.index.ensures false ∙ on in
    let no : false ≡ true = sym c.if-not-index.true ∙ is in cc))

pub returns-else-not-index-clause-due : goal.returns-else-not-index-clause-due
returns-else-not-index-clause-due c =
    let less : c.in-NewNode.node < length c.args.live.now.items = omega (arith, c.if-len-node.false, c.len.ensures) in
    let on : IsOn c.args.live.now.items c.in-NewNode.node = sym (get_or_read c.args.live.now.items c.in-NewNode.node c.index.result.now less c.index.ensures false) ∙ c.if-not-index.false in
    subst (λ (e : Pending). IsDueOf c.args.congruence.now.congruence.presentation.relations c.args.edges.now.graph c.args.live.now.items e c.due_at_start.result) (sym c.in-NewNode.is)
    (due_of_node c.args.congruence.now.congruence.presentation.relations c.args.edges.now.graph c.args.live.now.items c.in-NewNode.node c.due_at_start.result on c.due_at_start.ensures.due)

pub returns-in_default-clause-due : goal.returns-in_default-clause-due
returns-in_default-clause-due c =
    subst (λ (e : Pending). IsDueOf c.args.congruence.now.congruence.presentation.relations c.args.edges.now.graph c.args.live.now.items e Nothing) (sym c.in-NewEdge.is)
    (drop_none c.args.congruence.now.congruence.presentation.relations c.args.edges.now.graph c.args.live.now.items c.in-NewEdge.node c.in-NewEdge.letter (sym c.target.ensures ∙ c.in_default.is))

pub returns-in-Some-clause-due : goal.returns-in-Some-clause-due
returns-in-Some-clause-due c =
    subst (λ (e : Pending). IsDueOf c.args.congruence.now.congruence.presentation.relations c.args.edges.now.graph c.args.live.now.items e c.due_through.result) (sym c.in-NewEdge.is)
    (due_of_edge c.args.congruence.now.congruence.presentation.relations c.args.edges.now.graph c.args.live.now.items c.in-NewEdge.node c.in-NewEdge.letter c.due_through.result
    c.requires.live
    (λ e. let no : None ≡ Some c.in-Some.field-0 = sym e ∙ sym c.in-Some.ensures in cc) c.due_through.ensures.due)

pub due_at_start-requires-clause-node : goal.due_at_start-requires-clause-node
due_at_start-requires-clause-node c =
    let less : c.in-NewNode.node < length c.args.live.now.items = omega (arith, c.if-len-node.false, c.len.ensures) in
    c.requires.live.reached c.in-NewNode.node (sym (get_or_read c.args.live.now.items c.in-NewNode.node c.index.result.now less c.index.ensures false) ∙ c.if-not-index.false)

pub due_through-requires-clause-node : goal.due_through-requires-clause-node
due_through-requires-clause-node c = c.requires.live.edges c.in-NewEdge.node c.in-NewEdge.letter c.in-Some.field-0 (sym c.target.ensures ∙ c.in-Some.is)
