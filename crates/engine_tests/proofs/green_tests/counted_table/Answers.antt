use Rattle.std.proofs.Common.{ap, Ok}
use Rattle.engine_tests.proofs.green_tests.counted_table.Goals as goal

pub returns : goal.returns
returns g c = λ unused.
    let table = c.in-Whole.table in
    let run = c.in_ok-run.ensures in
    let of_run = ap Ok c.in-Whole.is in
    record { shaped = c.requires.shape; found = run.table table of_run unused; numbers = run.numbers table of_run unused }
