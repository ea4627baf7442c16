use Rattle.theory.proofs.KindLaws.{pairs_as_relations, relations_well_formed}
use Rattle.theory.proofs.kinds.pairs_are_relations.Goals as goal

pub returns-clause-related : goal.returns-clause-related
returns-clause-related c = pairs_as_relations

pub returns-clause-elements : goal.returns-clause-elements
returns-clause-elements c = relations_well_formed
