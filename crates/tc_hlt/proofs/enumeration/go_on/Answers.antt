use Rattle.tc_hlt.proofs.TurnLaws.{next_same}
use Rattle.tc_hlt.proofs.enumeration.go_on.Goals as goal

pub returns-clause-next : goal.returns-clause-next
returns-clause-next c =
    next_same c.first_unprocessed.result c.row_due.new.table c.first_unprocessed.new.self c.args.made c.in_ok-whole.whole c.if-whole.false
    c.in_ok-whole.ensures.whole c.first_unprocessed.ensures.same c.first_unprocessed.ensures.first
