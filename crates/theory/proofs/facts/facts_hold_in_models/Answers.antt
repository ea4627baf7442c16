use Rattle.theory.proofs.GraphLaws.{facts_in_model}
use Rattle.theory.proofs.facts.facts_hold_in_models.Goals as goal

pub returns : goal.returns
returns g c = λ law. facts_in_model law g.D.Words.has g.U.Words.has
