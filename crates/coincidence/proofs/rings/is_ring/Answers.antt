use Rattle.std.proofs.Common.{◌-◌, subst, take, drop}
use Rattle.coincidence.specs.Rings.{IsLoneWalk, turned}
use Rattle.coincidence.proofs.RingLaws.{lone_turned}
use Rattle.coincidence.proofs.rings.is_ring.Goals as goal

pub returns-then-start-node : goal.returns-then-start-node
returns-then-start-node c = λ _.
    let one = subst (λ z. IsLoneWalk c.args.edges.now.graph c.in-Some-lone_start.start (take (z - c.args.place) (drop c.args.place c.args.side.now)) c.in-Some.middle) c.len.ensures (c.lone_start-2.ensures c.in-Some-lone_start.start c.in-Some-lone_start.is) in
    subst (λ z. IsLoneWalk c.args.edges.now.graph z (turned c.args.place c.args.side.now) c.args.node) c.if-start-node.true
    (lone_turned c.args.edges.now.graph c.in-Some-lone_start.start c.in-Some.middle c.args.node c.args.place c.args.side.now c.requires one (c.lone_start.ensures c.in-Some.middle c.in-Some.is))
