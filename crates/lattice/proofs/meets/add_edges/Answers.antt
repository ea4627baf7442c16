use Rattle.std.proofs.Common.{◌+◌, arith, sym, subst}
use Rattle.lattice.specs.Products.{IsBegun}
use Rattle.lattice.proofs.ProductLaws.{begun_next, letters_are}
use Rattle.lattice.proofs.meets.add_edges.Goals as goal

pub add_edge-requires-clause-letter : goal.add_edge-requires-clause-letter
add_edge-requires-clause-letter c k both =
    let all = letters_are k c.letters-number-end.result c.args.s.now c.args.t.now both c.letters-number-end.ensures.graph in
    omega (arith, all, c.new.ensures, c.loop-number-test.true)

pub add_edge-requires-clause-begun : goal.add_edge-requires-clause-begun
add_edge-requires-clause-begun c k both =
    subst (IsBegun k c.args.s.now c.args.t.now c.loop-number.pairs.keys c.loop-number.graph c.args.place) (sym c.new.ensures) (c.loop-number.invariant.1 k both)

pub loop-number-preserved : goal.loop-number-preserved
loop-number-preserved c = (
  omega (arith, c.loop-number.invariant.0, c.in_ok-add_edge.ensures.more),
  λ k both.
      subst (λ n. IsBegun k c.args.s.now c.args.t.now c.add_edge.new.pairs.keys c.add_edge.new.graph c.args.place (n + 1)) c.new.ensures (c.in_ok-add_edge.ensures.begun k both),
)

pub returns : goal.returns
returns c k both =
    let all = letters_are k c.letters-number-end.result c.args.s.now c.args.t.now both c.letters-number-end.ensures.graph in
    begun_next k c.loop-number.number c.args.s.now c.args.t.now c.loop-number.pairs.keys c.loop-number.graph c.args.place
    (omega (arith, all, c.loop-number-test.false, c.loop-number.auto.number-end)) (c.loop-number.invariant.1 k both)
