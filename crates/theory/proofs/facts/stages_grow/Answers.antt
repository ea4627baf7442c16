use Rattle.theory.proofs.FelschLaws.{felsch_grows}
use Rattle.theory.proofs.HltLaws.{hlt_grows}
use Rattle.theory.proofs.facts.stages_grow.Goals as goal

pub returns-clause-felsch : goal.returns-clause-felsch
returns-clause-felsch c = felsch_grows

pub returns-clause-hlt : goal.returns-clause-hlt
returns-clause-hlt c = hlt_grows
