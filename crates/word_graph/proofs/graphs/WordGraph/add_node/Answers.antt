use Rattle.std.proofs.Common.{sym, subst}
use Rattle.theory.specs.Graph.{Graph, IsGraph}
use Rattle.cells.proofs.EntryLaws.{node_graph}
use Rattle.word_graph.proofs.graphs.WordGraph.add_node.Goals as goal

pub invariant_of-self-2 : goal.invariant_of-self-2
invariant_of-self-2 c =
    let k = c.self.inside.letters in
    record {
      graph = subst (λ (g : Graph). IsGraph k g) (sym (c.in_ok-add_row.ensures.ok k c.self.invariant.graph.width)) (node_graph k c.self.inside.rows c.self.invariant.graph);
      few = c.self.invariant.few;
    }
