use Rattle.theory.proofs.BandExample.{left_related, both_related, right_apart, both_apart}
use Rattle.theory.proofs.examples.pairs_on_a_band.Goals as goal

pub returns-clause-left : goal.returns-clause-left
returns-clause-left c = left_related

pub returns-clause-two_sided : goal.returns-clause-two_sided
returns-clause-two_sided c = both_related

pub returns-clause-right : goal.returns-clause-right
returns-clause-right c = right_apart

pub returns-clause-apart : goal.returns-clause-apart
returns-clause-apart c = both_apart
