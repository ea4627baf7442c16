use Rattle.theory.proofs.ClassListLaws.{classes_one, one_class_related, related_one_class}
use Rattle.theory.proofs.green.classes_are_one.Goals as goal

pub returns-clause-one : goal.returns-clause-one
returns-clause-one g c = λ n. classes_one n g.R.Numbers.relates

pub returns-clause-related : goal.returns-clause-related
returns-clause-related g c = λ n. one_class_related n g.R.Numbers.relates

pub returns-clause-together : goal.returns-clause-together
returns-clause-together g c = λ n. related_one_class n g.R.Numbers.relates
