use Rattle.theory.proofs.CyclicRows.{row_1, row_2, row_3, defined_before_rows, first_row_defines_all}
use Rattle.theory.proofs.examples.hlt_stages.Goals as goal

pub returns-clause-first : goal.returns-clause-first
returns-clause-first c = row_1

pub returns-clause-second : goal.returns-clause-second
returns-clause-second c = row_2

pub returns-clause-third : goal.returns-clause-third
returns-clause-third c = row_3

pub returns-clause-at_start : goal.returns-clause-at_start
returns-clause-at_start c = defined_before_rows

pub returns-clause-after_one : goal.returns-clause-after_one
returns-clause-after_one c = first_row_defines_all
