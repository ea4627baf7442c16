use Rattle.theory.proofs.FactsLaws.{facts_related}
use Rattle.theory.proofs.facts.facts_are_related.Goals as goal

pub returns : goal.returns
returns g c = λ law. facts_related law g.D.Words.has g.U.Words.has
