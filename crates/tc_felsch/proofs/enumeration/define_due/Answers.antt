use Rattle.tc_felsch.proofs.TurnLaws.{missing_edge}
use Rattle.tc_felsch.proofs.enumeration.define_due.Goals as goal

pub define-requires-clause-letter : goal.define-requires-clause-letter
define-requires-clause-letter c =
    let first = rw c.in-Some.is at c.requires.due in
    (missing_edge c.args.table.now.congruence.presentation.letters c.args.table.now.graph c.in-Some.due.0 c.in-Some.due.1 first).0

pub define-requires-clause-missing : goal.define-requires-clause-missing
define-requires-clause-missing c =
    let first = rw c.in-Some.is at c.requires.due in
    (missing_edge c.args.table.now.congruence.presentation.letters c.args.table.now.graph c.in-Some.due.0 c.in-Some.due.1 first).1
