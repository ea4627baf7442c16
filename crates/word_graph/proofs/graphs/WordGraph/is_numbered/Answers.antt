use Rattle.std.proofs.Common.{◌≡◌, ◌<◌, length, map, Some, refl, ap, subst, arith}
use Rattle.std.proofs.lemmas.List.{length-map}
use Rattle.theory.specs.Graph.{Graph, IsGraph}
use Rattle.word_graph.specs.Numbered.{IsSeenTo}
use Rattle.word_graph.proofs.NumberLaws.{seen_more, seen_standard, seen_end}
use Rattle.word_graph.proofs.graphs.WordGraph.is_numbered.Goals as goal

pub returns-then-seen-node : goal.returns-then-seen-node
returns-then-seen-node c = λ k rows graph e. (
  λ t. absurd (let bad : ⊥ = cc in bad),
  λ standard.
      let less : c.loop-node.node < length rows = omega (arith, ap (λ (g : Graph). length g) c.self.view_is, ap (λ (g : Graph). length g) e, length-map rows (map Some)) in
      let s = seen_standard k rows c.loop-node.node c.loop-node.seen standard less (c.loop-node.invariant rows e) in
      absurd (omega (arith, s.0, c.if-seen-node.true)),
)

pub returns-in-None : goal.returns-in-None
returns-in-None c = λ k rows graph e. (
  λ t. absurd (let bad : ⊥ = cc in bad),
  λ standard.
      let less : c.loop-node.node < length rows = omega (arith, ap (λ (g : Graph). length g) c.self.view_is, ap (λ (g : Graph). length g) e, length-map rows (map Some)) in
      let s = seen_standard k rows c.loop-node.node c.loop-node.seen standard less (c.loop-node.invariant rows e) in
      absurd (c.in-None.ensures rows e s.1),
)

pub loop-node-preserved : goal.loop-node-preserved
loop-node-preserved c = λ rows e.
    let less : c.loop-node.node < length rows = omega (arith, ap (λ (g : Graph). length g) c.self.view_is, ap (λ (g : Graph). length g) e, length-map rows (map Some)) in
    let s = c.in-Some.ensures rows e in
    seen_more rows c.loop-node.node c.loop-node.seen c.in-Some.next less c.if-seen-node.false s.0 s.1 (c.loop-node.invariant rows e)

pub returns : goal.returns
returns c = λ k rows graph e. (
  λ t.
      let end : c.loop-node.node ≡ length rows = omega (arith, ap (λ (g : Graph). length g) c.self.view_is, ap (λ (g : Graph). length g) e, length-map rows (map Some)) in
      seen_end k rows c.loop-node.seen (subst (λ (g : Graph). IsGraph k g) e graph) (subst (λ n. IsSeenTo rows n c.loop-node.seen) end (c.loop-node.invariant rows e)),
  λ standard. refl,
)
