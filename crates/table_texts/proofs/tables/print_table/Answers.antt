use Rattle.std.proofs.Common.{◌≡◌, ◌++◌, ℕ, List, [], get_or, ap, ap₂, ◌∙◌, codes, arith, ◌<◌, length}
use Rattle.std.proofs.lemmas.List.{take_all}
use Rattle.theory.specs.Graph.{Graph}
use Rattle.table_texts.specs.TableText.{table_text, row_text}
use Rattle.theory.proofs.PieceLaws.{joined_first, joined_more}
use Rattle.table_texts.proofs.tables.print_table.Goals as goal
use Rattle.table_texts.proofs.tables.print_table.Goals.{then-node-gt0+in_ok-push, else-node-gt0}

pub row-requires : goal.row-requires
row-requires c = omega (arith, ap (λ (g : Graph). length g) c.rows.ensures, c.loop-node-test.true, c.nodes-node-end.ensures.nodes)

pub loop-node-preserved : goal.loop-node-preserved
loop-node-preserved c =
    let g : Graph = c.args.graph.now in
    let node : ℕ = c.loop-node.node in
    let more : node < length g = omega (arith, c.loop-node-test.true, c.nodes-node-end.ensures.nodes) in
    let piece : c.as_slice.result.now ≡ row_text (get_or g node []) =
    c.as_slice.ensures.value ∙ c.in_ok-printed.ensures ∙ ap row_text (c.row.ensures ∙ ap (λ (z : Graph). get_or z node []) c.rows.ensures) in
    let put = c.in_ok-extend_from_slice.ensures.items in
    elim c.if-node-gt0.branch [
      | then-node-gt0+in_ok-push w ↦ put ∙ ap₂ (λ (a b : List ℕ). a ++ b) (ap (λ t. t.items) w.text-is ∙ w.in_ok-push.ensures.items ∙ ap (λ t. t ++ codes "/") c.loop-node.invariant) piece ∙ joined_more row_text (codes "/") g node [] w.if-node-gt0.true more
      | else-node-gt0 w ↦ put ∙ ap₂ (λ (a b : List ℕ). a ++ b) (ap (λ t. t.items) w.text-is ∙ c.loop-node.invariant) piece ∙ joined_first row_text (codes "/") g node [] w.if-node-gt0.false more
    ]

pub returns : goal.returns
returns c = c.loop-node.invariant ∙ ap (λ (g : Graph). table_text g) (take_all c.loop-node.node c.args.graph.now (omega (arith, c.loop-node-test.false, c.nodes-node-end.ensures.nodes)))
