use Rattle.std.proofs.Common.{◌≡◌, ◌<◌, ◌++◌, ◌∷◌, [], ℕ, List, Option, None, length, replicate, sym, ◌∙◌, ap, subst, arith}
use Rattle.std.proofs.lemmas.List.{length_push}
use Rattle.theory.specs.Graph.{Graph, target, IsGraph}
use Rattle.word_graph.specs.Edges.{with_edge, with_node}
use Rattle.cells.proofs.EntryLaws.{node_graph, target_node}
use Rattle.coincidence.specs.Links.{Links, IsLinked}
use Rattle.coincidence.specs.Absorbing.{Extends}
use Rattle.coincidence.specs.declared.cosets.Cosets.{Cosets}
use Rattle.coincidence.specs.declared.pending.Pending.TheVariants.{NewNode, NewEdge}
use Rattle.coincidence.proofs.FoldLaws.{width_is}
use Rattle.coincidence.proofs.HeldLaws.{defined_whole}
use Rattle.coincidence.proofs.PendingLaws.{extended_twice}
use Rattle.coincidence.proofs.TableLaws.{on_inside}
use Rattle.coincidence.proofs.cosets.Cosets.define.Goals as goal

-- the graph with a node more
more : (l k : ℕ) (t : Links) (new : Graph) → IsLinked l t → IsGraph k t.graph → ((k : ℕ) → IsLinked k t → new ≡ with_node k t.graph) → new ≡ with_node k t.graph
more l k t new is graph made = subst (λ z. new ≡ with_node z t.graph) (width_is l k t.graph is.graph graph) (made l is)

pub set_edge-requires-clause-node : goal.set_edge-requires-clause-node
set_edge-requires-clause-node c =
    let g = c.args.self.now.edges.graph in
    let w = c.requires.whole.1 in
    let graph = more c.letters-letters.result c.requires.whole.0.presentation.letters c.args.self.now.edges c.add_node-2.new.self.graph c.letters-letters.ensures w.graph c.in_ok-add_node-2.ensures.ok in
    omega (arith, on_inside g c.args.self.now.live.items c.args.node w.lives c.requires.node, ap length graph, length_push {X = List (Option ℕ)} g (replicate c.requires.whole.0.presentation.letters None))

pub set_edge-requires-clause-letter : goal.set_edge-requires-clause-letter
set_edge-requires-clause-letter c = λ k is.
    let letters = c.requires.whole.0.presentation.letters in
    let w = c.requires.whole.1 in
    let graph = more c.letters-letters.result letters c.args.self.now.edges c.add_node-2.new.self.graph c.letters-letters.ensures w.graph c.in_ok-add_node-2.ensures.ok in
    let same : letters ≡ k = width_is letters k c.add_node-2.new.self.graph (subst (IsGraph letters) (sym graph) (node_graph letters c.args.self.now.edges.graph w.graph)) is.graph in
    omega (arith, same, c.requires.whole.2)

pub set_edge-requires-clause-to : goal.set_edge-requires-clause-to
set_edge-requires-clause-to c =
    let g = c.args.self.now.edges.graph in
    let graph = more c.letters-letters.result c.requires.whole.0.presentation.letters c.args.self.now.edges c.add_node-2.new.self.graph c.letters-letters.ensures c.requires.whole.1.graph c.in_ok-add_node-2.ensures.ok in
    omega (arith, c.nodes-fresh.ensures, ap length graph, length_push {X = List (Option ℕ)} g (replicate c.requires.whole.0.presentation.letters None))

pub set_edge-requires-clause-missing : goal.set_edge-requires-clause-missing
set_edge-requires-clause-missing c =
    let letters = c.requires.whole.0.presentation.letters in
    let graph = more c.letters-letters.result letters c.args.self.now.edges c.add_node-2.new.self.graph c.letters-letters.ensures c.requires.whole.1.graph c.in_ok-add_node-2.ensures.ok in
    ap (λ (z : Graph). target z c.args.node c.args.letter) graph ∙ target_node letters c.args.self.now.edges.graph c.args.node c.args.letter ∙ c.requires.missing

pub returns-clause-graph : goal.returns-clause-graph
returns-clause-graph c = λ k w. c.set_edge.ensures
    ∙ ap (λ (z : Graph). with_edge z c.args.node c.args.letter c.nodes-fresh.result) (more c.letters-letters.result k.presentation.letters c.args.self.now.edges c.add_node-2.new.self.graph c.letters-letters.ensures w.graph c.in_ok-add_node-2.ensures.ok)

pub returns-clause-whole : goal.returns-clause-whole
returns-clause-whole c = λ k w.
    let g = c.args.self.now.edges.graph in
    let new : Cosets = record {
      edges = c.set_edge.new.self;
      live = c.push.new.self;
      marked = c.push-2.new.self;
      order = c.add_node.new.self;
      pending = c.push_node.new.self;
      replaced_by = c.args.self.now.replaced_by;
      queue = c.args.self.now.queue;
      seen = c.cut.new.self;
    } in
    let same : c.requires.whole.0.presentation.letters ≡ k.presentation.letters = width_is c.requires.whole.0.presentation.letters k.presentation.letters g c.requires.whole.1.graph w.graph in
    let less : c.args.letter < k.presentation.letters = omega (arith, same, c.requires.whole.2) in
    let graph : c.set_edge.new.self.graph ≡ with_edge (with_node k.presentation.letters g) c.args.node c.args.letter (length g) = c.set_edge.ensures
    ∙ ap (λ (z : Graph). with_edge z c.args.node c.args.letter c.nodes-fresh.result) (more c.letters-letters.result k.presentation.letters c.args.self.now.edges c.add_node-2.new.self.graph c.letters-letters.ensures w.graph c.in_ok-add_node-2.ensures.ok)
    ∙ ap (λ z. with_edge (with_node k.presentation.letters g) c.args.node c.args.letter z) c.nodes-fresh.ensures in
    let pending : Extends ((c.args.self.now.pending ++ NewEdge c.args.node c.args.letter ∷ []) ++ NewNode (length g) ∷ []) c.push_node.new.self =
    extended_twice (NewEdge c.args.node c.args.letter) (NewNode (length g)) c.args.self.now.pending c.push_edge.new.self c.push_node.new.self c.in_ok-push_edge.ensures
    (subst (λ n. Extends (c.push_edge.new.self ++ NewNode n ∷ []) c.push_node.new.self) c.nodes-fresh.ensures c.in_ok-push_node.ensures) in
    defined_whole k c.args.self.now new c.args.node c.args.letter w c.requires.node less c.requires.missing graph c.in_ok-push.ensures.items c.in_ok-push-2.ensures.items pending
    c.in_ok-add_node.ensures.places c.add_node.ensures.steps c.add_node.ensures.row c.add_node.ensures.letter c.add_node.ensures.done
    (λ n i h. let was = c.cut.ensures n i h in (was.0, omega (arith, was.1, c.nodes-fresh.ensures)))
