use Rattle.theory.proofs.ClassLaws.{same_least, same_normal}
use Rattle.theory.proofs.classes.normal_form_is_one.Goals as goal

pub returns-clause-least : goal.returns-clause-least
returns-clause-least c = same_least

pub returns-clause-normal : goal.returns-clause-normal
returns-clause-normal c = same_normal
