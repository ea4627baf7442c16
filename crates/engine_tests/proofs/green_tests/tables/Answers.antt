use Rattle.std.proofs.Common.{[]}
use Rattle.cayley.proofs.WholeLaws.{read_tables}
use Rattle.green.proofs.ToldLaws.{of_letters}
use Rattle.engine_tests.proofs.green_tests.tables.Goals as goal

pub returns-in_ok-tables-in-Some : goal.returns-in_ok-tables-in-Some
returns-in_ok-tables-in-Some c =
    let whole = rw c.in-Some.is at (c.in_ok-table.ensures) [] in
    let read = c.in_ok-tables-in-Some.ensures in
    let told = read_tables _ _ c.args.maps.now.items [] c.in-Some.table c.in_ok-tables-in-Some.field-0 whole.found whole.numbers
    (record { words = read.words; right = read.right; left = read.left; letters = read.letters }) in (
      told.fit,
      of_letters _ _ c.args.maps.now.items [] c.in_ok-tables-in-Some.field-0 told,
      c.tables_serve.ensures.commute c.args.maps.now.items [] c.requires.shape c.in_ok-tables-in-Some.field-0 told,
      c.tables_serve.ensures.agree c.args.maps.now.items [] c.requires.shape c.in_ok-tables-in-Some.field-0 told,
    )
