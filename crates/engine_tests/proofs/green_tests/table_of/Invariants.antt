use Rattle.engine_tests.proofs.green_tests.table_of.Given as goal

abbrev pub ghosts-counted_table : goal.ghosts-counted_table
ghosts-counted_table g a = record { name = a.blank.name; parts = a.blank.parts }
