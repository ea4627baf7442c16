use Rattle.line_parts.proofs.TableLemmas.{bad_table_is, broken_is, congruence_is_taken, congruence_taken_is, is_bad_table, is_broken, low_is_taken, low_taken_is}
use Rattle.line_parts.proofs.facts.tables_are_read.Goals as goal

pub returns-clause-low : goal.returns-clause-low
returns-clause-low c is_monoid k n t g = (low_taken_is is_monoid k n t g, λ both. low_is_taken is_monoid k n t g both.0 both.1)

pub returns-clause-congruence : goal.returns-clause-congruence
returns-clause-congruence c is_monoid k relations t g = (congruence_taken_is is_monoid k relations t g, λ both. congruence_is_taken is_monoid k relations t g both.0 both.1)

pub returns-clause-bad : goal.returns-clause-bad
returns-clause-bad c is_monoid k relations t = (bad_table_is is_monoid k relations t, is_bad_table is_monoid k relations t)

pub returns-clause-breaks : goal.returns-clause-breaks
returns-clause-breaks c is_monoid k relations t = (broken_is is_monoid k relations t, is_broken is_monoid k relations t)
