use Rattle.std.proofs.Common.{Bool, List, length, sym, subst, arith}
use Rattle.rewriting.specs.Tables.{edges}
use Rattle.reduced_automaton.specs.Paths.{narrowed}
use Rattle.reduced_automaton.specs.Framings.{AreMarks, LeadsTo}
use Rattle.reduced_automaton.proofs.MarkLaws.{marks_end, marks_push, marks_start}
use Rattle.reduced_automaton.proofs.marks.layer_behind.Goals as goal

pub loop-node-init : goal.loop-node-init
loop-node-init c =
    let P = LeadsTo (narrowed c.args.letters (edges c.args.graph.now)) c.args.marks.now in
    subst (λ (xs : List Bool). AreMarks P 0 xs) (sym c.in_ok-layer.ensures.items) (marks_start P)

pub loop-node-preserved : goal.loop-node-preserved
loop-node-preserved c =
    let P = LeadsTo (narrowed c.args.letters (edges c.args.graph.now)) c.args.marks.now in
    marks_push P c.loop-node.node c.loop-node.layer.items c.push.new.self.items c.leads_to.result c.loop-node.invariant c.leads_to.ensures c.in_ok-push.ensures.items

pub returns : goal.returns
returns c =
    let P = LeadsTo (narrowed c.args.letters (edges c.args.graph.now)) c.args.marks.now in
    marks_end P c.loop-node.node (length (edges c.args.graph.now)) c.loop-node.layer.items
    (let low = c.loop-node.auto.node-end in omega (arith, low, c.loop-node-test.false, c.nodes-node-end.ensures.nodes)) c.loop-node.invariant
