use Rattle.std.proofs.Common.{true, refl, sym, subst}
use Rattle.std.specs.Vec.{with_item}
use Rattle.coincidence.specs.Live.{IsOn}
use Rattle.coincidence.specs.Table.{CosetTable}
use Rattle.coincidence.specs.declared.cosets.Cosets.{Cosets}
use Rattle.coincidence.proofs.HeldLaws.{marked_whole, seen, still_held}
use Rattle.coincidence.proofs.tables.Table.mark.Goals as goal

pub invariant_of-self : goal.invariant_of-self
invariant_of-self c =
    let on = subst (λ (t : CosetTable). IsOn t.live c.args.node) (sym (seen c.self.inside.congruence.congruence c.self.inside.cosets c.self.inside.failed c.args.self.now c.if-self.false c.self.view_is)) c.requires in
    let new : Cosets = record c.self.inside.cosets { marked = with_item c.self.inside.cosets.marked c.args.node true } in
    still_held c.self.inside.congruence.congruence c.self.inside.cosets new c.self.inside.failed c.if-self.false c.self.invariant (marked_whole c.self.inside.congruence.congruence c.self.inside.cosets new c.args.node refl refl on (c.self.invariant.whole c.if-self.false)) refl
