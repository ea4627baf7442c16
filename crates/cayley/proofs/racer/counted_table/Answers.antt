use Rattle.std.proofs.Common.{ap, Ok}
use Rattle.cayley.proofs.racer.counted_table.Goals as goal

pub returns-in-Over : goal.returns-in-Over
returns-in-Over g c = λ unused. (c.in_ok-run.ensures.over unused).0 c.in-Over.is

pub returns : goal.returns
returns g c = λ unused.
    let table = c.in-Whole.table in
    let run = c.in_ok-run.ensures in
    let of_run = ap Ok c.in-Whole.is in (
      (run.whole unused).0 (table, c.in-Whole.is),
      record { shaped = c.requires.shape; found = run.table table of_run unused; numbers = run.numbers table of_run unused },
    )
