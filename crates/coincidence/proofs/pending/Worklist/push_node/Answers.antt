use Rattle.std.proofs.Common.{◌++◌, ◌∷◌, [], List, subst}
use Rattle.coincidence.specs.Absorbing.{Extends}
use Rattle.coincidence.specs.declared.pending.Pending.{Pending}
use Rattle.coincidence.specs.declared.pending.Pending.TheVariants.{NewNode}
use Rattle.coincidence.proofs.PendingLaws.{second_pushed}
use Rattle.coincidence.proofs.pending.Worklist.push_node.Goals as goal

pub returns : goal.returns
returns c =
    subst (λ (z : List Pending). Extends (z ++ NewNode c.args.node ∷ []) (c.self.inside.edges.items ++ c.push.new.self.items)) c.self.view_is
    (second_pushed c.self.inside.edges.items c.self.inside.nodes.items c.push.new.self.items (NewNode c.args.node) c.in_ok-push.ensures.items)
