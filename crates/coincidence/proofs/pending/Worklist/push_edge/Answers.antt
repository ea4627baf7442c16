use Rattle.std.proofs.Common.{◌++◌, ◌∷◌, [], List, subst}
use Rattle.coincidence.specs.Absorbing.{Extends}
use Rattle.coincidence.specs.declared.pending.Pending.{Pending}
use Rattle.coincidence.specs.declared.pending.Pending.TheVariants.{NewEdge}
use Rattle.coincidence.proofs.PendingLaws.{first_pushed}
use Rattle.coincidence.proofs.pending.Worklist.push_edge.Goals as goal

pub returns : goal.returns
returns c =
    subst (λ (z : List Pending). Extends (z ++ NewEdge c.args.node c.args.letter ∷ []) (c.push.new.self.items ++ c.self.inside.nodes.items)) c.self.view_is
    (first_pushed c.self.inside.edges.items c.self.inside.nodes.items c.push.new.self.items (NewEdge c.args.node c.args.letter) c.in_ok-push.ensures.items)
