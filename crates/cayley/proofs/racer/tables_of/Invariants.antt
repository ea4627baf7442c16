use Rattle.cayley.proofs.racer.tables_of.Given as goal

abbrev pub ghosts-counted_table : goal.ghosts-counted_table
ghosts-counted_table g a = record { name = a.blank.name; parts = a.blank.parts }
