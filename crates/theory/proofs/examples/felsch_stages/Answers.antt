use Rattle.theory.proofs.CyclicExample.{stage_one, stage_two, defined_at_start, defined_after_one, third_is_empty, two_define_all}
use Rattle.theory.proofs.examples.felsch_stages.Goals as goal

pub returns-clause-first : goal.returns-clause-first
returns-clause-first c = stage_one

pub returns-clause-second : goal.returns-clause-second
returns-clause-second c = stage_two

pub returns-clause-at_start : goal.returns-clause-at_start
returns-clause-at_start c = defined_at_start

pub returns-clause-after_one : goal.returns-clause-after_one
returns-clause-after_one c = defined_after_one

pub returns-clause-closed : goal.returns-clause-closed
returns-clause-closed c = third_is_empty

pub returns-clause-after_two : goal.returns-clause-after_two
returns-clause-after_two c = two_define_all
