use Rattle.green.proofs.FiniteLaws.{j_is_d}
use Rattle.green.proofs.facts.j_by_r_and_l.Goals as goal

pub returns : goal.returns
returns c = j_is_d
