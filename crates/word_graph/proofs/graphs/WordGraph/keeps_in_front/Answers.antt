use Rattle.std.proofs.Common.{ℕ, ◌↔◌, List, Option, IsTrue, subst}
use Rattle.word_graph.specs.TwoSided.{KeepsEdges}
use Rattle.word_graph.proofs.ImageLaws.{kept_agrees}
use Rattle.word_graph.proofs.graphs.WordGraph.keeps_in_front.Goals as goal

pub returns : goal.returns
returns c = λ k over table.
    let kept = kept_agrees k c.args.self.now c.args.walk.now.steps.items c.args.walk.now.places.items over table c.args.first c.in_ok-images.images.items (c.in_ok-images.ensures.images k over) in
    let edges : IsTrue c.keeps_edges.result ↔ KeepsEdges k c.args.self.now c.in_ok-images.images.items =
    subst (λ (xs : List (Option ℕ)). IsTrue c.keeps_edges.result ↔ KeepsEdges k c.args.self.now xs) c.as_slice.ensures.value (c.keeps_edges.ensures k table.graph) in
    (λ e. kept.0 (edges.0 e), λ agrees. edges.1 (kept.1 agrees))
