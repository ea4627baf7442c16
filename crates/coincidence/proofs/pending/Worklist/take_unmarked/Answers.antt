use Rattle.std.proofs.Common.{◌≡◌, ◌<◌, length, false, arith}
use Rattle.std.proofs.lemmas.List.{get_or_read}
use Rattle.coincidence.proofs.HoldLaws.{taken_more, taken_all}
use Rattle.coincidence.proofs.pending.Worklist.take_unmarked.Goals as goal

pub loop-node-preserved : goal.loop-node-preserved
loop-node-preserved c =
    let less : c.loop-node.node < length c.args.live.now.items = omega (arith, c.loop-node-test.true, c.len-node-end.ensures) in
    let less' : c.loop-node.node < length c.args.marked.now.items = omega (arith, less, c.requires) in
    taken_more c.args.live.now.items c.args.marked.now.items c.loop-node.self c.take_unmarked_node.new.self c.loop-node.node c.index.result.now c.index-in-loop-node.result.now
    (get_or_read c.args.live.now.items c.loop-node.node c.index.result.now less c.index.ensures false)
    (get_or_read c.args.marked.now.items c.loop-node.node c.index-in-loop-node.result.now less' c.index-in-loop-node.ensures false)
    c.in_ok-take_unmarked_node.ensures.there c.in_ok-take_unmarked_node.ensures.still c.loop-node.invariant

pub returns : goal.returns
returns c =
    let end : c.loop-node.node ≡ length c.args.live.now.items = omega (arith, c.loop-node-test.false, c.loop-node.auto.node-end, c.len-node-end.ensures) in
    taken_all c.args.live.now.items c.args.marked.now.items c.loop-node.self c.loop-node.node end c.loop-node.invariant
