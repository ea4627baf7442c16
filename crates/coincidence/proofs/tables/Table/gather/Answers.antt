use Rattle.std.proofs.Common.{refl, arith}
use Rattle.coincidence.specs.declared.cosets.Cosets.{Cosets}
use Rattle.coincidence.proofs.HeldLaws.{failed_held, pending_whole, still_held}
use Rattle.coincidence.proofs.tables.Table.gather.Goals as goal

pub invariant_of-self : goal.invariant_of-self
invariant_of-self c =
    let was = c.self.invariant.whole c.if-self.false in
    let new : Cosets = record c.self.inside.cosets { pending = c.gather.new.self } in
    still_held c.self.inside.congruence.congruence c.self.inside.cosets new c.self.inside.failed c.if-self.false c.self.invariant (pending_whole c.self.inside.congruence.congruence c.self.inside.cosets new refl (c.in-Ok.ensures c.self.inside.congruence.congruence.presentation.relations c.self.inside.cosets.edges.graph c.self.inside.cosets.live.items (omega (arith, c.len.ensures, c.self.inside.cosets.live.ok)) was.closed) was) refl

pub invariant_of-self-in-Err : goal.invariant_of-self-in-Err
invariant_of-self-in-Err c = rw (c.fail.ensures) (failed_held _ _ c.self.invariant.table.congruence)

pub returns-in-Err-clause-table : goal.returns-in-Err-clause-table
returns-in-Err-clause-table c = rw (c.fail.ensures) ((failed_held c.self.inside.congruence.congruence c.self.inside.cosets c.self.invariant.table.congruence).table)
