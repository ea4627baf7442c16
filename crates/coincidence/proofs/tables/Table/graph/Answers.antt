use Rattle.coincidence.proofs.HeldLaws.{failed_held}
use Rattle.coincidence.proofs.tables.Table.graph.Goals as goal

pub invariant_of-self : goal.invariant_of-self
invariant_of-self c = rw (c.fail.ensures) (failed_held _ _ c.self.invariant.table.congruence)

pub returns-in-Err-clause-table : goal.returns-in-Err-clause-table
returns-in-Err-clause-table c = rw (c.fail.ensures) ((failed_held c.self.inside.congruence.congruence c.self.inside.cosets c.self.invariant.table.congruence).table)
