use Rattle.theory.proofs.CompletedKinds.{completed_related, completed_well_formed, completed_decides_kinds, completed_least_kinds}
use Rattle.theory.proofs.marked.completion_decides_each_kind.Goals as goal

pub returns-clause-words : goal.returns-clause-words
returns-clause-words c = completed_related

pub returns-clause-elements : goal.returns-clause-elements
returns-clause-elements c = completed_well_formed

pub returns-clause-related : goal.returns-clause-related
returns-clause-related c = completed_decides_kinds

pub returns-clause-least : goal.returns-clause-least
returns-clause-least c = completed_least_kinds
