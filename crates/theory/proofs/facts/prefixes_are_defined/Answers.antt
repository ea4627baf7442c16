use Rattle.theory.proofs.Prefixes.{felsch_prefixes, hlt_prefixes}
use Rattle.theory.proofs.facts.prefixes_are_defined.Goals as goal

pub returns-clause-felsch : goal.returns-clause-felsch
returns-clause-felsch c = λ law i D. felsch_prefixes law

pub returns-clause-hlt : goal.returns-clause-hlt
returns-clause-hlt c = λ law i U. hlt_prefixes law
