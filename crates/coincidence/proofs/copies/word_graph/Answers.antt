use Rattle.std.proofs.Common.{◌≡◌, None, Some, length, subst, sym, ap, ◌∙◌, arith}
use Rattle.theory.specs.Graph.{target}
use Rattle.coincidence.proofs.CopyLaws.{IsCopiedTo, copy_none, copy_edge, copy_row, copy_end}
use Rattle.coincidence.proofs.copies.word_graph.Goals as goal
use Rattle.coincidence.proofs.copies.word_graph.Goals.{in-Some, in_default}

pub loop-number-preserved : goal.loop-number-preserved
loop-number-preserved c =
    let letter : c.new-letter.result ≡ c.loop-number.number = c.new-letter.ensures in
    elim c.match-target.branch [
      | in-Some w ↦
          let there : target c.args.edges.now.graph c.loop-node.node c.loop-number.number ≡ Some w.in-Some.to = ap (λ z. target c.args.edges.now.graph c.loop-node.node z) (sym letter) ∙ sym w.in-Some.ensures in
          rw (w.graph-is, w.set_target.ensures, letter) (copy_edge c.letters-letters.result c.args.edges.now.graph c.loop-number.graph c.loop-node.node c.loop-number.number w.in-Some.to c.letters-letters.ensures.graph there c.loop-number.invariant)
      | in_default w ↦
          let none : target c.args.edges.now.graph c.loop-node.node c.loop-number.number ≡ None = ap (λ z. target c.args.edges.now.graph c.loop-node.node z) (sym letter) ∙ sym c.target.ensures ∙ w.in_default.is in
          rw (w.graph-is) (copy_none c.letters-letters.result c.args.edges.now.graph c.loop-number.graph c.loop-node.node c.loop-number.number none c.loop-number.invariant)
    ]

pub loop-node-preserved : goal.loop-node-preserved
loop-node-preserved c =
    let end : c.loop-number.number ≡ c.letters-letters.result = omega arith in
    copy_row c.letters-letters.result c.args.edges.now.graph c.loop-number.graph c.loop-node.node c.letters-letters.ensures.graph (subst (λ z. IsCopiedTo c.letters-letters.result c.args.edges.now.graph c.loop-number.graph c.loop-node.node z) end c.loop-number.invariant)

pub returns : goal.returns
returns c =
    let end : c.loop-node.node ≡ length c.args.edges.now.graph = omega (arith, c.nodes-nodes.ensures) in
    copy_end c.letters-letters.result c.args.edges.now.graph c.loop-node.graph c.loop-node.node end c.letters-letters.ensures.graph c.loop-node.invariant
