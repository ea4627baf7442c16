use Rattle.std.proofs.Common.{◌≡◌, length, sym, subst}
use Rattle.theory.specs.Graph.{PathsRelate}
use Rattle.coincidence.specs.Holding.{IsReach}
use Rattle.coincidence.specs.Closing.{ClosedThere}
use Rattle.coincidence.specs.Table.{CosetTable}
use Rattle.coincidence.proofs.HeldLaws.{between, failed_held, held, seen}
use Rattle.coincidence.proofs.tables.Table.close.Goals as goal

pub close-requires-clause-reach : goal.close-requires-clause-reach
close-requires-clause-reach c = subst (λ (t : CosetTable). IsReach t.congruence.presentation.relations t.graph t.live t.marked c.args.reach)
    (sym (seen c.self.inside.congruence.congruence c.self.inside.cosets c.self.inside.failed c.args.self.now c.if-self.false c.self.view_is)) c.requires

pub invariant_of-self-in-Err : goal.invariant_of-self-in-Err
invariant_of-self-in-Err c = rw (c.fail.ensures) (failed_held _ _ c.self.invariant.table.congruence)

pub returns-in-Err-clause-table : goal.returns-in-Err-clause-table
returns-in-Err-clause-table c = rw (c.fail.ensures) ((failed_held c.self.inside.congruence.congruence c.self.inside.cosets c.self.invariant.table.congruence).table)

pub invariant_of-self : goal.invariant_of-self
invariant_of-self c = held c.self.inside.congruence.congruence c.close.new.self c.self.inside.failed c.if-self.false (c.in-Ok.ensures.whole) c.letters-letters.ensures.lists

pub returns-in-Ok-clause-table : goal.returns-in-Ok-clause-table
returns-in-Ok-clause-table c = (held c.self.inside.congruence.congruence c.close.new.self c.self.inside.failed c.if-self.false (c.in-Ok.ensures.whole) c.letters-letters.ensures.lists).table

pub returns-in-Ok-clause-relates : goal.returns-in-Ok-clause-relates
returns-in-Ok-clause-relates c =
    between (λ (old new : CosetTable). PathsRelate new.graph (ClosedThere old.congruence old.graph c.args.reach.at))
    c.self.inside.congruence.congruence c.self.inside.failed c.self.inside.cosets c.close.new.self c.args.self.now c.if-self.false c.self.view_is c.in-Ok.ensures.relates

pub returns-in-Ok-clause-nodes : goal.returns-in-Ok-clause-nodes
returns-in-Ok-clause-nodes c =
    between (λ (old new : CosetTable). length new.graph ≡ length old.graph)
    c.self.inside.congruence.congruence c.self.inside.failed c.self.inside.cosets c.close.new.self c.args.self.now c.if-self.false c.self.view_is c.in-Ok.ensures.gathered.numbers.nodes
