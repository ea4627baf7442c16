use Rattle.theory.proofs.MarkedLaws.{marked_next, marked_last, marked_list, marked_infinite}
use Rattle.theory.proofs.marked.marked_words_list_classes.Goals as goal

pub returns-clause-next : goal.returns-clause-next
returns-clause-next c = λ c L is. marked_next c is L

pub returns-clause-last : goal.returns-clause-last
returns-clause-last c = λ c L is. marked_last c is L

pub returns-clause-list : goal.returns-clause-list
returns-clause-list c = λ c L is. marked_list c is L

pub returns-clause-infinite : goal.returns-clause-infinite
returns-clause-infinite c = λ c L is. marked_infinite c is L
