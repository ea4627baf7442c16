use Rattle.std.proofs.Common.{Bool, List, length, inl, sym, ◌∙◌, subst, arith}
use Rattle.rewriting.specs.Tables.{edges}
use Rattle.reduced_automaton.specs.Paths.{narrowed}
use Rattle.reduced_automaton.specs.Framings.{AreMarks, IsGrown}
use Rattle.reduced_automaton.proofs.MarkLaws.{grown_by, marks_end, marks_push, marks_start}
use Rattle.reduced_automaton.proofs.marks.grown.Goals as goal
use Rattle.reduced_automaton.proofs.marks.grown.Goals.{then-ends-node, else-ends-node}

pub loop-node-init : goal.loop-node-init
loop-node-init c =
    let P = IsGrown (narrowed c.args.letters (edges c.args.graph.now)) c.args.ends.now c.args.marks.now in
    subst (λ (xs : List Bool). AreMarks P 0 xs) (sym c.in_ok-new.ensures.items) (marks_start P)

pub loop-node-preserved : goal.loop-node-preserved
loop-node-preserved c =
    let P = IsGrown (narrowed c.args.letters (edges c.args.graph.now)) c.args.ends.now c.args.marks.now in
    marks_push P c.loop-node.node c.loop-node.new.items c.push.new.self.items c.if-ends-node.push c.loop-node.invariant
    (elim c.if-ends-node.branch [
      | then-ends-node w ↦ (λ t. inl w.if-ends-node.true, λ h. w.push-is ∙ w.if-ends-node.true)
      | else-ends-node w ↦
          grown_by (narrowed c.args.letters (edges c.args.graph.now)) c.args.ends.now c.args.marks.now c.loop-node.node c.if-ends-node.push w.leads_to.result
          w.if-ends-node.false w.leads_to.ensures w.push-is
    ]) c.in_ok-push.ensures.items

pub returns : goal.returns
returns c =
    let P = IsGrown (narrowed c.args.letters (edges c.args.graph.now)) c.args.ends.now c.args.marks.now in
    marks_end P c.loop-node.node (length (edges c.args.graph.now)) c.loop-node.new.items
    (let low = c.loop-node.auto.node-end in omega (arith, low, c.loop-node-test.false, c.nodes-node-end.ensures.nodes)) c.loop-node.invariant
