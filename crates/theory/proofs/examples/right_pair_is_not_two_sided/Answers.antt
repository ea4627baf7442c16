use Rattle.theory.proofs.LatticeExample.{not_two_sided}
use Rattle.theory.proofs.examples.right_pair_is_not_two_sided.Goals as goal

pub returns : goal.returns
returns c = not_two_sided
