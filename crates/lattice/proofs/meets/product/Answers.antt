use Rattle.std.proofs.Common.{arith}
use Rattle.lattice.proofs.ProductLaws.{begun_first, few_pairs, first_pair, letters_are, product_done}
use Rattle.lattice.proofs.meets.product.Goals as goal

pub loop-place-init : goal.loop-place-init
loop-place-init c k both =
    begun_first k c.letters.result c.args.s.now c.args.t.now c.insert.new.self.keys c.in_ok-graph.graph both (letters_are k c.letters.result c.args.s.now c.args.t.now both c.letters.ensures.graph)
    (first_pair c.new-pairs.result.keys c.insert.new.self.keys c.new-pairs.ensures.empty c.in_ok-insert.ensures.keys) c.in_ok-graph.ensures

pub loop-place-smaller : goal.loop-place-smaller
loop-place-smaller c =
    let few = few_pairs c.requires.0 c.args.s.now c.args.t.now c.loop-place.pairs.keys c.loop-place.graph c.loop-place.place 0 (c.loop-place.invariant c.requires.0 c.requires.1) c.len.ensures.unique in
    omega (arith, few, c.loop-place-test.true, c.len.ensures.len)

pub returns : goal.returns
returns c k both =
    product_done k c.args.s.now c.args.t.now c.loop-place.pairs.keys c.loop-place.graph c.loop-place.place (c.loop-place.invariant k both) c.len.ensures.unique
    (omega (arith, c.loop-place-test.false, c.len.ensures.len))
