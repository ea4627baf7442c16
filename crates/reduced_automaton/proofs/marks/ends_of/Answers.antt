use Rattle.std.proofs.Common.{Bool, List, length, sym, ◌∙◌, ap, subst, arith}
use Rattle.std.specs.Option.{is_some}
use Rattle.rewriting.specs.Tables.{edges}
use Rattle.reduced_automaton.specs.Paths.{GoesOn}
use Rattle.reduced_automaton.specs.Framings.{AreMarks, frame_paths}
use Rattle.reduced_automaton.proofs.MarkLaws.{ends_are, marks_end, marks_push, marks_start}
use Rattle.reduced_automaton.proofs.marks.ends_of.Goals as goal

pub loop-node-init : goal.loop-node-init
loop-node-init c = subst (λ (xs : List Bool). AreMarks (λ node. GoesOn (frame_paths (edges c.args.graph.now) c.args.frame.now) node 0) 0 xs) (sym c.in_ok-ends.ensures.items) (marks_start (λ node. GoesOn (frame_paths (edges c.args.graph.now) c.args.frame.now) node 0))

pub loop-node-preserved : goal.loop-node-preserved
loop-node-preserved c =
    let p = frame_paths (edges c.args.graph.now) c.args.frame.now in
    marks_push (λ node. GoesOn p node 0) c.loop-node.node c.loop-node.ends.items c.push.new.self.items c.is_some.result c.loop-node.invariant
    (ends_are (edges c.args.graph.now) c.args.frame.now c.loop-node.node c.is_some.result (c.is_some.ensures ∙ ap is_some c.path_from.ensures)) c.in_ok-push.ensures.items

pub returns : goal.returns
returns c =
    let p = frame_paths (edges c.args.graph.now) c.args.frame.now in
    marks_end (λ node. GoesOn p node 0) c.loop-node.node (length (edges c.args.graph.now)) c.loop-node.ends.items (let low = c.loop-node.auto.node-end in omega (arith, low, c.loop-node-test.false, c.nodes-node-end.ensures.nodes)) c.loop-node.invariant
