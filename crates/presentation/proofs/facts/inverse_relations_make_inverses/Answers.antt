use Rattle.presentation.proofs.AddedLemmas.{inverse_product, inverse_exchanged}
use Rattle.presentation.proofs.facts.inverse_relations_make_inverses.Goals as goal

pub returns-clause-product : goal.returns-clause-product
returns-clause-product c = inverse_product

pub returns-clause-exchanged : goal.returns-clause-exchanged
returns-clause-exchanged c = inverse_exchanged
