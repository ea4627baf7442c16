use Rattle.std.proofs.Common.{List, subst, arith}
use Rattle.coincidence.specs.Drawing.{IsLast}
use Rattle.coincidence.specs.declared.pending.Pending.{Pending}
use Rattle.coincidence.proofs.PendingLaws.{last_of_first, last_of_second}
use Rattle.coincidence.proofs.pending.Worklist.last.Goals as goal

pub returns-then-count-gt0 : goal.returns-then-count-gt0
returns-then-count-gt0 c =
    subst (λ (z : List Pending). IsLast z c.newest.result) c.self.view_is
    (last_of_second c.self.inside.edges.items c.self.inside.nodes.items c.newest.result (omega (arith, c.len-count.ensures, c.self.inside.nodes.ok, c.if-count-gt0.true)) c.newest.ensures)

pub returns : goal.returns
returns c =
    subst (λ (z : List Pending). IsLast z c.newest-2.result) c.self.view_is
    (last_of_first c.self.inside.edges.items c.self.inside.nodes.items c.newest-2.result (omega (arith, c.len-count.ensures, c.self.inside.nodes.ok, c.if-count-gt0.false)) c.newest-2.ensures)
