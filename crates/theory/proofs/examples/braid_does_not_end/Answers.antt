use Rattle.theory.proofs.BraidExample.{braid_rule, braid_does_not_end}
use Rattle.theory.proofs.examples.braid_does_not_end.Goals as goal

pub returns-clause-rules : goal.returns-clause-rules
returns-clause-rules c = braid_rule

pub returns-clause-fails : goal.returns-clause-fails
returns-clause-fails c = braid_does_not_end
