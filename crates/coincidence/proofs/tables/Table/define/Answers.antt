use Rattle.std.proofs.Common.{◌<◌, sym, subst}
use Rattle.coincidence.specs.Table.{CosetTable}
use Rattle.coincidence.proofs.HeldLaws.{failed_held, held, seen}
use Rattle.coincidence.proofs.tables.Table.define.Goals as goal

pub define-requires-clause-whole : goal.define-requires-clause-whole
define-requires-clause-whole c =
    (c.self.inside.congruence.congruence, c.self.invariant.whole c.if-self.false, subst (λ (t : CosetTable). c.args.letter < t.congruence.presentation.letters) (sym (seen c.self.inside.congruence.congruence c.self.inside.cosets c.self.inside.failed c.args.self.now c.if-self.false c.self.view_is)) c.requires.letter)

pub invariant_of-self-in-Err : goal.invariant_of-self-in-Err
invariant_of-self-in-Err c = rw (c.fail.ensures) (failed_held _ _ c.self.invariant.table.congruence)

pub returns-in-Err-clause-table : goal.returns-in-Err-clause-table
returns-in-Err-clause-table c = rw (c.fail.ensures) ((failed_held c.self.inside.congruence.congruence c.self.inside.cosets c.self.invariant.table.congruence).table)

pub invariant_of-self : goal.invariant_of-self
invariant_of-self c = held c.self.inside.congruence.congruence c.define.new.self c.self.inside.failed c.if-self.false (c.in-Ok.ensures.whole c.self.inside.congruence.congruence (c.self.invariant.whole c.if-self.false)) c.letters-letters.ensures.lists

pub returns-in-Ok-clause-table : goal.returns-in-Ok-clause-table
returns-in-Ok-clause-table c = (held c.self.inside.congruence.congruence c.define.new.self c.self.inside.failed c.if-self.false (c.in-Ok.ensures.whole c.self.inside.congruence.congruence (c.self.invariant.whole c.if-self.false)) c.letters-letters.ensures.lists).table
