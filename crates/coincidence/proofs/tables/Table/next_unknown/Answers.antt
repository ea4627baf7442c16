use Rattle.coincidence.proofs.HeldLaws.{known_holds}
use Rattle.coincidence.proofs.tables.Table.next_unknown.Goals as goal

pub returns : goal.returns
returns c = λ k p from less. known_holds c.self.inside.congruence.congruence c.self.inside.cosets c.self.inside.failed c.args.self.now c.if-self.false (c.self.invariant.whole c.if-self.false) c.self.view_is c.args.node k (c.next_unseen.ensures k from less) c.requires p
