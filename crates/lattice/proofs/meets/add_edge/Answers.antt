use Rattle.std.proofs.Common.{ℕ, ◌*◌, ◌<◌, ◌+◌, length, slice_index, sym, subst}
use Rattle.theory.specs.Graph.{Graph}
use Rattle.lattice.specs.Products.{HasNode, IsBegun, IsStep}
use Rattle.lattice.specs.Tables.{AreTables}
use Rattle.lattice.proofs.ProductLaws.{at_letter, at_node, at_place, begun_more, index_of_get}
use Rattle.lattice.proofs.meets.add_edge.Goals as goal

pub target_of-pair-requires-clause-pair : goal.target_of-pair-requires-clause-pair
target_of-pair-requires-clause-pair c =
    let begun = c.requires.begun c.requires.tables.0 c.requires.tables.1 in
    subst (λ n. n < length c.args.s.now * length c.args.t.now) (index_of_get c.args.pairs.now.keys c.args.place c.index.result.now c.index.ensures) (begun.within c.args.place c.requires.place)

pub node_of-requires : goal.node_of-requires
node_of-requires c = (c.requires.begun c.requires.tables.0 c.requires.tables.1).count

-- the pair has its node
has : (c : goal.After-set_target-arg-1) (k : ℕ) → AreTables k c.args.s.now c.args.t.now
    → HasNode k c.args.pairs.now.keys c.node_of.new.pairs.keys c.args.graph.now c.node_of.new.graph c.target_of-pair.result c.in_ok-node.node
has c k both = c.in_ok-node.ensures k (c.requires.begun k both).graph

pub set_target-requires-clause-node : goal.set_target-requires-clause-node
set_target-requires-clause-node c =
    let k = c.requires.tables.0 in
    let both = c.requires.tables.1 in
    at_place k c.args.s.now c.args.t.now c.args.pairs.now.keys c.node_of.new.pairs.keys c.args.graph.now c.node_of.new.graph c.args.place c.args.letter c.target_of-pair.result
    c.in_ok-node.node (c.requires.begun k both) (has c k both) c.requires.place (c.requires.letter k both)

pub set_target-requires-clause-letter : goal.set_target-requires-clause-letter
set_target-requires-clause-letter c =
    let k = c.requires.tables.0 in
    let both = c.requires.tables.1 in
    at_letter k c.args.s.now c.args.t.now c.args.pairs.now.keys c.node_of.new.pairs.keys c.args.graph.now c.node_of.new.graph c.args.place c.args.letter c.target_of-pair.result
    c.in_ok-node.node (c.requires.begun k both) (has c k both) c.requires.place (c.requires.letter k both)

pub set_target-requires-clause-to : goal.set_target-requires-clause-to
set_target-requires-clause-to c =
    let k = c.requires.tables.0 in
    let both = c.requires.tables.1 in
    at_node k c.args.s.now c.args.t.now c.args.pairs.now.keys c.node_of.new.pairs.keys c.args.graph.now c.node_of.new.graph c.args.place c.args.letter c.target_of-pair.result
    c.in_ok-node.node (c.requires.begun k both) (has c k both) c.requires.place (c.requires.letter k both)

pub returns-clause-begun : goal.returns-clause-begun
returns-clause-begun c k both =
    let s = c.args.s.now in
    let t = c.args.t.now in
    let old = c.args.pairs.now.keys in
    let new = c.node_of.new.pairs.keys in
    let begun = c.requires.begun k both in
    let node = c.in_ok-node.ensures k begun.graph in
    let step : IsStep s t (slice_index old c.args.place) c.args.letter c.target_of-pair.result =
    subst (λ n. IsStep s t n c.args.letter c.target_of-pair.result) (sym (index_of_get old c.args.place c.index.result.now c.index.ensures)) c.target_of-pair.ensures.step in
    subst (λ (g : Graph). IsBegun k s t new g c.args.place (c.args.letter + 1)) (sym c.set_target.ensures)
    (begun_more k s t old new c.args.graph.now c.node_of.new.graph c.args.place c.args.letter c.target_of-pair.result c.in_ok-node.node begun node c.requires.place (c.requires.letter k both) step
    c.target_of-pair.ensures.within)

pub returns-clause-more : goal.returns-clause-more
returns-clause-more c =
    let k = c.requires.tables.0 in
    let both = c.requires.tables.1 in
    (c.in_ok-node.ensures k (c.requires.begun k both).graph).more
