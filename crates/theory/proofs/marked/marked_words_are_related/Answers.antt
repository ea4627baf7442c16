use Rattle.theory.proofs.MarkedLaws.{marked_related, marked_well_formed, marked_framed}
use Rattle.theory.proofs.marked.marked_words_are_related.Goals as goal

pub returns-clause-related : goal.returns-clause-related
returns-clause-related c = marked_related

pub returns-clause-elements : goal.returns-clause-elements
returns-clause-elements c = marked_well_formed

pub returns-clause-framed : goal.returns-clause-framed
returns-clause-framed c = λ c. marked_framed c.kind c.presentation.letters
