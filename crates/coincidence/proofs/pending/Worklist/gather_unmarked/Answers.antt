use Rattle.coincidence.proofs.HoldLaws.{closed_unmarked}
use Rattle.coincidence.proofs.pending.Worklist.gather_unmarked.Goals as goal

pub returns-in_ok-take_unmarked : goal.returns-in_ok-take_unmarked
returns-in_ok-take_unmarked c = λ pairs graph hold _. closed_unmarked pairs graph c.args.live.now.items c.args.marked.now.items c.take_unmarked.new.self hold c.in_ok-take_unmarked.ensures
