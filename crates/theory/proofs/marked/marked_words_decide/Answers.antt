use Rattle.theory.proofs.MarkedLaws.{marked_decides, marked_normal}
use Rattle.theory.proofs.marked.marked_words_decide.Goals as goal

pub returns-clause-related : goal.returns-clause-related
returns-clause-related c = λ c L is. marked_decides c is L

pub returns-clause-normal : goal.returns-clause-normal
returns-clause-normal c = λ c L is. marked_normal c is L
