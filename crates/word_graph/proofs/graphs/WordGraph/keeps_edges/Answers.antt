use Rattle.std.proofs.Common.{◌≡◌, true, refl, sym, subst, arith, inl, inr}
use Rattle.std.proofs.lemmas.Bool.{cases_lt}
use Rattle.word_graph.specs.TwoSided.{KeepsEdge}
use Rattle.word_graph.proofs.graphs.WordGraph.keeps_edges.Goals as goal

pub returns-then-not-keeps_row : goal.returns-then-not-keeps_row
returns-then-not-keeps_row c = λ k graph. (
  λ e. absurd (let bad : ⊥ = cc in bad),
  λ kept.
      let row : c.keeps_row.result ≡ true = (c.keeps_row.ensures k graph).1 (kept c.loop-node.node (omega (arith, c.loop-node-test.true, c.nodes-node-end.ensures.nodes))) in
      let bad : ⊥ = grind (arith, row, c.if-not-keeps_row.true, c.if-not-keeps_row.ensures) in
      absurd bad,
)

pub loop-node-preserved : goal.loop-node-preserved
loop-node-preserved c = λ k graph node h letter l.
    elim (cases_lt node c.loop-node.node) [
      | inl old ↦ c.loop-node.invariant k graph node old letter l
      | inr new ↦
          let e : node ≡ c.loop-node.node = omega (arith, h, new) in
          let row : c.keeps_row.result ≡ true = grind (arith, c.if-not-keeps_row.false, c.if-not-keeps_row.ensures) in
          subst (λ z. KeepsEdge c.args.self.now c.args.images.now z letter) (sym e) ((c.keeps_row.ensures k graph).0 row letter l)
    ]

pub returns : goal.returns
returns c = λ k graph. (
  λ e node h. c.loop-node.invariant k graph node (omega (arith, h, c.loop-node-test.false, c.nodes-node-end.ensures.nodes)),
  λ kept. refl,
)
