use Rattle.theory.proofs.FactsLaws.{facts_have, facts_within}
use Rattle.theory.proofs.facts.facts_are_least.Goals as goal

pub returns-clause-parts : goal.returns-clause-parts
returns-clause-parts g c = λ law. facts_have law g.D.Words.has g.U.Words.has

pub returns-clause-least : goal.returns-clause-least
returns-clause-least g c = λ law h u v. facts_within law g.D.Words.has g.U.Words.has g.V.Relation.relates h
