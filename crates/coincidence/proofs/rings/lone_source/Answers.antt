use Rattle.std.proofs.Common.{sym, subst}
use Rattle.word_graph.proofs.WalkLaws.{some_same}
use Rattle.coincidence.specs.Rings.{IsLoneEdge}
use Rattle.coincidence.proofs.RingLaws.{lone_edge}
use Rattle.coincidence.proofs.rings.lone_source.Goals as goal

pub returns-in-None : goal.returns-in-None
returns-in-None c = λ source e.
    let lone = lone_edge c.letters-letters.result c.args.edges.now c.args.node c.args.letter c.in-Some.source c.letters-letters.ensures (sym c.in-Some.ensures) (sym c.in-None.ensures) in
    subst (λ z. IsLoneEdge c.args.edges.now.graph z c.args.letter c.args.node) (some_same c.in-Some.source source e) lone
