use Rattle.theory.proofs.MarkedLaws.{marked_least, marked_reduced}
use Rattle.theory.proofs.marked.marked_words_are_least.Goals as goal

pub returns-clause-least : goal.returns-clause-least
returns-clause-least c = marked_least

pub returns-clause-reduced : goal.returns-clause-reduced
returns-clause-reduced c = λ c L is. marked_reduced c is L
