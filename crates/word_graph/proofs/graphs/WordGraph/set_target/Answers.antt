use Rattle.std.proofs.Common.{◌<◌, [], length, get_or, sym, subst, arith}
use Rattle.theory.specs.Graph.{Graph, IsGraph}
use Rattle.word_graph.proofs.EdgeLaws.{graph_edged}
use Rattle.word_graph.proofs.graphs.WordGraph.set_target.Goals as goal

pub invariant_of-self : goal.invariant_of-self
invariant_of-self c =
    let k = c.self.inside.letters in
    let rows : Graph = c.self.inside.rows in
    let node : c.args.node < length rows = rw c.self.view_is c.requires.node in
    let to : c.args.to < length rows = rw c.self.view_is c.requires.to in
    let wide : c.args.letter < length (get_or rows c.args.node []) = rw c.self.view_is c.requires.letter in
    let letter : c.args.letter < k = omega (arith, wide, c.self.invariant.graph.width c.args.node [] node) in
    record {
      graph = subst (λ (g : Graph). IsGraph k g) (sym c.put.ensures) (graph_edged k rows c.args.node c.args.letter c.args.to c.self.invariant.graph node letter to);
      few = c.self.invariant.few;
    }
