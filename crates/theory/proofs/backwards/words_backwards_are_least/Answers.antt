use Rattle.theory.proofs.BackwardsLaws.{backwards_least, least_backwards, backwards_tail}
use Rattle.theory.proofs.backwards.words_backwards_are_least.Goals as goal

pub returns-clause-least : goal.returns-clause-least
returns-clause-least c = backwards_least

pub returns-clause-edges : goal.returns-clause-edges
returns-clause-edges c = λ k g word is h. least_backwards k g word is.rooted h is

pub returns-clause-tail : goal.returns-clause-tail
returns-clause-tail c = backwards_tail
