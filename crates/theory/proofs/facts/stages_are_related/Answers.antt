use Rattle.std.proofs.Common.{Contains}
use Rattle.theory.proofs.FactsLaws.{facts_related}
use Rattle.theory.proofs.HltLaws.{hlt_facts_related}
use Rattle.theory.proofs.facts.stages_are_related.Goals as goal

pub returns-clause-felsch : goal.returns-clause-felsch
returns-clause-felsch c = λ law D. facts_related law (Contains D) (λ w. Unit {0})

pub returns-clause-hlt : goal.returns-clause-hlt
returns-clause-hlt c = hlt_facts_related
