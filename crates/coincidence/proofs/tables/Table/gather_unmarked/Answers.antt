use Rattle.std.proofs.Common.{refl, sym, ◌∙◌, subst}
use Rattle.coincidence.specs.Table.{HoldWhereMarked}
use Rattle.coincidence.specs.declared.cosets.Cosets.{Cosets}
use Rattle.coincidence.proofs.HeldLaws.{failed_held, pending_whole, seen, still_held}
use Rattle.coincidence.proofs.tables.Table.gather_unmarked.Goals as goal

pub invariant_of-self : goal.invariant_of-self
invariant_of-self c =
    let was = c.self.invariant.whole c.if-self.false in
    let new : Cosets = record c.self.inside.cosets { pending = c.gather_unmarked.new.self } in
    still_held c.self.inside.congruence.congruence c.self.inside.cosets new c.self.inside.failed c.if-self.false c.self.invariant (pending_whole c.self.inside.congruence.congruence c.self.inside.cosets new refl (c.in-Ok.ensures c.self.inside.congruence.congruence.presentation.relations c.self.inside.cosets.edges.graph (subst HoldWhereMarked (sym (seen c.self.inside.congruence.congruence c.self.inside.cosets c.self.inside.failed c.args.self.now c.if-self.false c.self.view_is)) c.requires) was.closed) was) refl

pub invariant_of-self-in-Err : goal.invariant_of-self-in-Err
invariant_of-self-in-Err c = rw (c.fail.ensures) (failed_held _ _ c.self.invariant.table.congruence)

pub returns-in-Err-clause-table : goal.returns-in-Err-clause-table
returns-in-Err-clause-table c = rw (c.fail.ensures) ((failed_held c.self.inside.congruence.congruence c.self.inside.cosets c.self.invariant.table.congruence).table)

pub gather_unmarked-requires : goal.gather_unmarked-requires
gather_unmarked-requires c =
    let was = c.self.invariant.whole c.if-self.false in
    was.shape ∙ sym was.lives.shape
