use Rattle.std.proofs.Common.{List, IfSome, Some, subst}
use Rattle.coincidence.specs.Drawing.{IsLast}
use Rattle.coincidence.specs.declared.pending.Pending.{Pending}
use Rattle.coincidence.proofs.PendingLaws.{last_node_of}
use Rattle.coincidence.proofs.pending.Worklist.last_node.Goals as goal

pub returns : goal.returns
returns c =
    subst (λ (z : List Pending). IfSome c.newest.result (λ node. IsLast z (Some node))) c.self.view_is
    (last_node_of c.self.inside.edges.items c.self.inside.nodes.items c.newest.result c.newest.ensures)
