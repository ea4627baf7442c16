use Rattle.std.proofs.Common.{refl}
use Rattle.theory.proofs.ReversedExample.{four_classes, normal_there, ba_not_least}
use Rattle.theory.proofs.examples.least_words_are_not_reversed.Goals as goal

pub returns-clause-list : goal.returns-clause-list
returns-clause-list c = four_classes

pub returns-clause-there : goal.returns-clause-there
returns-clause-there c = normal_there

pub returns-clause-backwards : goal.returns-clause-backwards
returns-clause-backwards c = refl

pub returns-clause-here : goal.returns-clause-here
returns-clause-here c = ba_not_least
