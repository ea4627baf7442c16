use Rattle.std.proofs.Common.{◌==◌}
use Rattle.std.specs.List.{list_any}
use Rattle.lattice.proofs.ProductLaws.{has_new, has_old, inserted}
use Rattle.lattice.proofs.meets.node_of.Goals as goal

pub returns-in_ok-add_node : goal.returns-in_ok-add_node
returns-in_ok-add_node c k graph =
    let old = c.args.pairs.now.keys in
    let new = c.insert_full.new.self.keys in
    let pair = c.args.pair in
    let stored = c.in_ok-node.ensures.stored in
    has_new k old new c.args.graph.now c.add_node.new.self pair c.in_ok-node.node stored.0 graph c.requires
    ((inserted old new pair (list_any (λ p. pair == p) old) c.in_ok-node.is_new c.in_ok-node.ensures.added c.in_ok-node.ensures.keys).0 c.if-is_new.true)
    (c.in_ok-add_node.ensures.ok.1 k graph) c.in_ok-node.ensures.within stored.1 stored.2

pub returns-else-is_new : goal.returns-else-is_new
returns-else-is_new c k graph =
    let old = c.args.pairs.now.keys in
    let new = c.insert_full.new.self.keys in
    let pair = c.args.pair in
    let stored = c.in_ok-node.ensures.stored in
    has_old k old new c.args.graph.now pair c.in_ok-node.node stored.0 graph c.requires
    ((inserted old new pair (list_any (λ p. pair == p) old) c.in_ok-node.is_new c.in_ok-node.ensures.added c.in_ok-node.ensures.keys).1 c.if-is_new.false)
    c.in_ok-node.ensures.within stored.1 stored.2
