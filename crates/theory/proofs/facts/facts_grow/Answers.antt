use Rattle.theory.proofs.FactsLaws.{facts_grow}
use Rattle.theory.proofs.facts.facts_grow.Goals as goal

pub returns : goal.returns
returns g c = λ law. facts_grow law g.D.Words.has g.U.Words.has g.E.Words.has g.X.Words.has
