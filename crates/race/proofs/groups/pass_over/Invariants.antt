use Rattle.std.specs.List.{AllZip}
use Rattle.race.specs.SeatedLane.{TookTurns}
use Rattle.race.proofs.GroupTurns.{Passed}
use Rattle.race.proofs.groups.pass_over.Given as goal

abbrev pub invariant-loop-i : goal.invariant-loop-i
invariant-loop-i g l =
    let r = g.R.Racer in
    AllZip (TookTurns r l.word.table_id) l.fn.group l.group × Passed r l.any_ran l.i l.fn.group l.group
