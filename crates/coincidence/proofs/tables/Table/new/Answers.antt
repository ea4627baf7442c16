use Rattle.std.proofs.Common.{false, refl, sym, ◌∙◌, ap, subst}
use Rattle.presentation.specs.Presented.{Posed}
use Rattle.coincidence.specs.Table.{IsHeld}
use Rattle.coincidence.proofs.HeldLaws.{held}
use Rattle.coincidence.proofs.tables.Table.new.Goals as goal
use Rattle.coincidence.proofs.tables.Table.new.Goals.{In-Ok}

made : (c : In-Ok) → IsHeld c.in-Ok.congruence.congruence false c.in_ok-cosets.cosets
made c =
    let posed = c.args.congruence.now.congruence in
    let letters = c.letters.ensures.letters ∙ ap (λ z. z.letters) c.presentation.ensures.presentation in
    subst (λ (p : Posed). IsHeld p.congruence false c.in_ok-cosets.cosets) (sym (c.in-Ok.ensures)) (held posed c.in_ok-cosets.cosets false refl (c.in_ok-cosets.ensures.whole posed c.presentation.ensures.posed.well_formed (sym letters)) c.letters-letters.ensures.lists)

pub invariant_of-result : goal.invariant_of-result
invariant_of-result c = made c

pub returns-in-Ok-clause-table : goal.returns-in-Ok-clause-table
returns-in-Ok-clause-table c = (made c).table
