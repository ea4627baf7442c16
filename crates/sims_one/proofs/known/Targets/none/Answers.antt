use Rattle.sims_one.proofs.CodeLaws.{nodes_none, codes_none}
use Rattle.sims_one.proofs.known.Targets.none.Goals as goal

pub returns : goal.returns
returns c = nodes_none 901

pub invariant_of-result : goal.invariant_of-result
invariant_of-result c = codes_none 901
