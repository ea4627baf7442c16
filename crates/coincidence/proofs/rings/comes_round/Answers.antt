use Rattle.std.proofs.Common.{◌≡◌, ◌<◌, length, subst, arith}
use Rattle.coincidence.proofs.RingLaws.{IsRingBelow, round_quiet}
use Rattle.coincidence.proofs.rings.comes_round.Goals as goal

pub returns : goal.returns
returns c = λ _.
    let end : c.loop-place.place ≡ c.args.count = omega arith in
    let some : 0 < length c.args.side.now = omega (arith, c.if-count-len.false, c.len.ensures, c.requires.within) in
    round_quiet c.args.edges.now.graph c.args.edge.now.node c.args.edge.now.letter c.args.side.now c.args.other.now c.args.count (c.is_empty.ensures.0 c.if-not-is_empty.false) (c.requires.some some) c.requires.stays
    (subst (λ z. IsRingBelow c.args.edges.now.graph c.args.edge.now.node c.args.edge.now.letter c.args.side.now z) end c.loop-place.invariant)
