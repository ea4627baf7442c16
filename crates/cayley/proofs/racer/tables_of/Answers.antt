use Rattle.cayley.proofs.WholeLaws.{read_tables}
use Rattle.cayley.proofs.racer.tables_of.Goals as goal

pub returns-in-None : goal.returns-in-None
returns-in-None g c = λ unused. rw c.in-None.is at (c.in_ok-counted_table.ensures unused)

pub returns-in_ok-tables-in-Some : goal.returns-in_ok-tables-in-Some
returns-in_ok-tables-in-Some g c = λ unused.
    let h = rw c.in-Some.is at (c.in_ok-counted_table.ensures unused) in (
      h.0,
      read_tables g.E.Values.product g.E.PartialEq.eq c.args.generators.now.items unused c.in-Some.table c.in_ok-tables-in-Some.field-0 h.1.found h.1.numbers
          (record { words = c.in_ok-tables-in-Some.ensures.words; right = c.in_ok-tables-in-Some.ensures.right; left = c.in_ok-tables-in-Some.ensures.left; letters = c.in_ok-tables-in-Some.ensures.letters }),
    )
