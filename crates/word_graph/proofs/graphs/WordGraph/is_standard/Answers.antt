use Rattle.std.proofs.Common.{◌≡◌, ℕ, [], true, false, sym, ◌∙◌, subst, arith}
use Rattle.theory.specs.Graph.{Graph, IsGraph, IsComplete}
use Rattle.theory.specs.LowIndex.{graph_of}
use Rattle.cells.proofs.EntryLaws.{target_is}
use Rattle.word_graph.proofs.RowLaws.{target_rows, rows_exact}
use Rattle.word_graph.proofs.NumberLaws.{rows_complete}
use Rattle.word_graph.proofs.graphs.WordGraph.is_standard.Goals as goal

exact : (k : ℕ) (g : Graph) → IsGraph k g → IsComplete k g → g ≡ graph_of (target_rows g)
exact k g graph complete =
    rows_exact g (λ n a hn ha.
    let edge = complete n a hn (omega (arith, graph.width n [] hn, ha)) in
    (edge.0, sym (target_is g n a) ∙ edge.1))

pub returns-then-is_complete : goal.returns-then-is_complete
returns-then-is_complete c = λ k graph. (
  λ t.
      let rows = exact k c.args.self.now graph ((c.is_complete.ensures k graph).0 c.if-is_complete.true) in
      record { rows = target_rows c.args.self.now; is = rows; standard = (c.is_numbered.ensures k (target_rows c.args.self.now) graph rows).0 t },
  λ standard. (c.is_numbered.ensures k standard.rows graph standard.is).1 standard.standard,
)

pub returns-else-is_complete : goal.returns-else-is_complete
returns-else-is_complete c = λ k graph. (
  λ t. absurd (let e : false ≡ true = sym c.if-is_complete.false ∙ t in let bad : ⊥ = cc in bad),
  λ standard. (c.is_complete.ensures k graph).1 (subst (λ (g : Graph). IsComplete k g) (sym standard.is) (rows_complete k standard.rows standard.standard)),
)
