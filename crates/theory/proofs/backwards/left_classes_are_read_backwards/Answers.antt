use Rattle.theory.proofs.BackwardsLaws.{backwards_normal, backwards_list, decides_backwards}
use Rattle.theory.proofs.backwards.left_classes_are_read_backwards.Goals as goal

pub returns-clause-normal : goal.returns-clause-normal
returns-clause-normal c = backwards_normal

pub returns-clause-list : goal.returns-clause-list
returns-clause-list c = backwards_list

pub returns-clause-decides : goal.returns-clause-decides
returns-clause-decides c = decides_backwards
