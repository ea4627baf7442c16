use Rattle.tc_hlt.proofs.GrowLaws.{word_live}
use Rattle.tc_hlt.proofs.TurnLaws.{row_ready}
use Rattle.tc_hlt.proofs.enumeration.row_due.Goals as goal

pub make_row-requires-clause-node : goal.make_row-requires-clause-node
make_row-requires-clause-node c =
    let ready = row_ready c.args.table.now c.in-Some.node c.args.made (rw c.in-Some.is at c.requires.turn) in
    word_live c.args.table.now c.in-Some.node ready.first.word c.requires.table ready.first.leads
